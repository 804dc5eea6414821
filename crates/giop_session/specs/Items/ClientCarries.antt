-- What a server says of one call at a client, and what is stored there then (CORBA 3.3 Part 2,
-- 9.4.3 and 9.4.6).
use Rattle.std.specs.Prelude.{◌≡◌, ℕ, false, if◌then◌else◌, List, map, Option, Some, None}
use Rattle.giop_cdr.specs.declared.order.Order.{Order}
use Rattle.giop_types.specs.declared.interfaces.interface.Interface.{Interface}
use Rattle.giop_msg.specs.declared.kind.Kind.{Kind}
use Rattle.giop_msg.specs.declared.kind.Kind.TheVariants as message
use Rattle.giop_msg.specs.declared.msg.Msg.{Msg}
use Rattle.giop_msg.specs.declared.version.Version.{Version}
use Rattle.giop_msg.specs.Locate.{AnyLocateRequest}
use Rattle.giop_msg.specs.Messages.LocateReply.{locate_reply}
use Rattle.giop_msg.specs.Messages.Reply.{reply}
use Rattle.giop_msg.specs.declared.messages.locate_reply.LocateReply.{LocateReply}
use Rattle.giop_msg.specs.declared.messages.reply.Reply.{Reply}
use Rattle.giop_msg.specs.declared.messages.request.Request.{Request}
use Rattle.giop_mux.specs.Runs.{Hears, IsTaken}
use Rattle.giop_calls.specs.declared.client.call.Call.{Call as Asked}
use Rattle.giop_calls.specs.declared.client.call.Call.TheVariants as asked
use Rattle.giop_calls.specs.declared.client.entry.ClientEntry.{ClientEntry}
use Rattle.giop_calls.specs.declared.client.entry.ClientEntry.TheVariants.{Cancelled, Gathering, Waiting}
use Rattle.giop_calls.specs.declared.client.event.ClientEvent.{ClientEvent}
use Rattle.giop_calls.specs.declared.client.event.ClientEvent.TheVariants as event
use Rattle.giop_calls.specs.declared.client.heard.HeardReply.{HeardReply}
use Rattle.giop_calls.specs.declared.client.heard.HeardReply.TheVariants as heard
use Rattle.giop_calls.specs.declared.client.late.Late.{Late}
use Rattle.giop_calls.specs.declared.client.late.Late.TheVariants as late
use Rattle.giop_calls.specs.declared.kind.CallKind.{CallKind}
use Rattle.giop_calls.specs.declared.kind.CallKind.TheVariants as kind
use Rattle.giop_calls.specs.ClientTable.{client_step, settles}
use Rattle.giop_session.specs.Runs.Events.{Comes}
use Rattle.giop_session.specs.Items.Carries.{CarriesItem, IsWrittenAs, Item, Telling, Got, Bad, Begun, Rest, Cancel, Did}
use Rattle.giop_end.specs.Hearing.ClientHears.{heard_reply}

-- what is said of one call at a client
abbrev pub ClientItem : Type 0
ClientItem = Item HeardReply ClientEvent

-- what is known of the calls of an id: the entry that is stored, and the latest call
pub record Known : Type 0 where
  pub entry : Option ClientEntry
  pub latest : Option Asked

-- nothing yet
abbrev pub unknown : Known
unknown = record { entry = None; latest = None }

-- the message type of an answer
abbrev pub replies : CallKind → Kind
replies kind.Request = message.Reply
replies kind.Locate = message.LocateReply

-- the call that a reply answers: the one that waits for it, or else the latest, which was cancelled
abbrev pub answered : Option ClientEntry → Option Asked → Option Asked
answered (Some (Waiting call)) latest = Some call
answered entry latest = latest

-- joined octets spell a Reply of the interface to a Request, or a LocateReply to a LocateRequest,
-- with nothing behind it
abbrev pub SpellsReply : Interface → Option Asked → CallKind → Version → Order → List ℕ → HeardReply
    → Type 0
SpellsReply interface (Some (asked.Request request)) kind.Request version order octets
    (heard.Reply answer) = (reply interface (Some request) version).spells order 12 answer octets
SpellsReply interface (Some (asked.Locate request)) kind.Locate version order octets
    (heard.Locate answer) = (locate_reply version).spells order 12 answer octets
SpellsReply interface call kind version order octets answer = ⊥

-- what octets come to that spell no answer to a call: the first fault in them
abbrev pub unspelled : Interface → Option Asked → Version → Order → List ℕ → HeardReply
unspelled interface None version order octets = heard.Unread
unspelled interface (Some call) version order octets =
    heard_reply interface call version order octets

-- a whole reply settles the call that waits for it; behind a cancel it is seen, and not read
abbrev pub received : Option ClientEntry → HeardReply → Option ClientEntry
received (Some (Waiting call)) answer = (settles (Waiting call) call answer).entry
received (Some (Cancelled late.None)) answer = Some (Cancelled late.Seen)
received entry answer = entry

-- a reply whose last piece didn't come: its call is gathering, or was cancelled
abbrev pub begun : Option ClientEntry → Option ClientEntry
begun (Some (Waiting call)) = Some (Gathering call)
begun (Some (Cancelled late.None)) = Some (Cancelled late.Begun)
begun entry = entry

-- what stands behind an item that isn't refused; Fragments behind a cancel, and what the client
-- does, by the table of steps
abbrev pub entry_behind : Interface → Known → ClientItem → Option ClientEntry
entry_behind interface known (Got answer) = received known.entry answer
entry_behind interface known (Bad kind version order octets) =
    received known.entry
    (unspelled interface (answered known.entry known.latest) version order octets)
entry_behind interface known (Begun kind) = begun known.entry
entry_behind interface known (Rest ends) =
    if ends then (client_step known.entry (event.Last false heard.Unread)).entry else known.entry
entry_behind interface known Cancel = known.entry
entry_behind interface known (Did (Hears event)) = (client_step known.entry event).entry
entry_behind interface known (Did IsTaken) = None

-- the latest call behind an item
abbrev pub latest_behind : Option Asked → ClientItem → Option Asked
latest_behind latest (Did (Hears (event.Call call pieces))) = Some call
latest_behind latest _ = latest

-- what a client meets says this of its calls; a server cancels none
abbrev pub client_telling : Interface → Telling Known HeardReply ClientEvent
client_telling interface = record {
  type_of = replies;
  Spells = λ known. SpellsReply interface (answered known.entry known.latest);
  Cancels = λ m. ⊥;
  WasCancelled = λ known. (late : Late) × (known.entry ≡ Some (Cancelled late));
  behind = λ known item. record {
    entry = entry_behind interface known item;
    latest = latest_behind known.latest item;
  };
}

-- messages carry an answer to a client that knows this of the call
abbrev pub CarryReply : Interface → Known → HeardReply → List Msg → Type 0
CarryReply interface known reply messages =
    CarriesItem (client_telling interface) known (Got reply) (map Comes messages)

-- a client's next answer is to this Request, or to this LocateRequest
abbrev pub AwaitsReply : Known → Request → Type 0
AwaitsReply known request =
    answered known.entry known.latest ≡ Some (asked.Request request)

abbrev pub AwaitsLocateReply : Known → AnyLocateRequest → Type 0
AwaitsLocateReply known request =
    answered known.entry known.latest ≡ Some (asked.Locate request)

-- these messages are a Reply to a Request, written in a version and a byte order and cut into pieces
-- of a size
abbrev pub IsReplyIn : Interface → Request → Version → Order → Reply → ℕ → List Msg → Type 0
IsReplyIn interface asked version order answer piece sent =
    IsWrittenAs (reply interface (Some asked) version) order answer message.Reply piece version sent

-- and these a LocateReply
abbrev pub IsLocateReplyIn : Version → Order → LocateReply → ℕ → List Msg → Type 0
IsLocateReplyIn version order answer piece sent =
    IsWrittenAs (locate_reply version) order answer message.LocateReply piece version sent
