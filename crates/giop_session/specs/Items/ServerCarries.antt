-- What a client says of one call at a server, and what is stored there then (CORBA 3.3 Part 2,
-- 9.4.2, 9.4.4 and 9.4.5).
use Rattle.std.specs.Prelude.{◌≡◌, ℕ, Bool, List, map, Option, Some, None}
use Rattle.giop_cdr.specs.declared.order.Order.{Order}
use Rattle.giop_cdr.specs.Ending.{ended}
use Rattle.giop_types.specs.declared.interfaces.interface.Interface.{Interface}
use Rattle.giop_msg.specs.declared.kind.Kind.{Kind}
use Rattle.giop_msg.specs.declared.kind.Kind.TheVariants as message
use Rattle.giop_msg.specs.declared.msg.Msg.{Msg}
use Rattle.giop_msg.specs.declared.version.Version.{Version}
use Rattle.giop_msg.specs.Joined.{AreWhole}
use Rattle.giop_msg.specs.Locate.{AnyLocateRequest, locate_request}
use Rattle.giop_msg.specs.Messages.Request.{request}
use Rattle.giop_msg.specs.declared.messages.request.Request.{Request}
use Rattle.giop_mux.specs.Runs.{Hears, IsTaken}
use Rattle.giop_calls.specs.declared.kind.CallKind.{CallKind}
use Rattle.giop_calls.specs.declared.kind.CallKind.TheVariants as kind
use Rattle.giop_calls.specs.declared.server.entry.ServerEntry.{ServerEntry}
use Rattle.giop_calls.specs.declared.server.entry.ServerEntry.TheVariants.{Cancelled, Gathering}
use Rattle.giop_calls.specs.declared.server.event.ServerEvent.{ServerEvent}
use Rattle.giop_calls.specs.declared.server.event.ServerEvent.TheVariants as event
use Rattle.giop_calls.specs.declared.server.heard.HeardCall.{HeardCall}
use Rattle.giop_calls.specs.declared.server.heard.HeardCall.TheVariants as heard
use Rattle.giop_calls.specs.ServerTable.{arrived, server_step}
use Rattle.giop_session.specs.Runs.Events.{Comes}
use Rattle.giop_session.specs.Items.Carries.{CarriesItem, IsWrittenAs, Item, Telling, Got, Bad, Begun, Rest, Cancel, Did}
use Rattle.giop_end.specs.Hearing.Decoding.{heard_call}

-- what is said of one call at a server
abbrev pub ServerItem : Type 0
ServerItem = Item HeardCall ServerEvent

-- the message type of a call
abbrev pub asks : CallKind → Kind
asks kind.Request = message.Request
asks kind.Locate = message.LocateRequest

-- joined octets spell a Request of the interface, or a LocateRequest, with nothing behind it
abbrev pub SpellsCall : Interface → CallKind → Version → Order → List ℕ → HeardCall → Type 0
SpellsCall interface kind.Request version order octets (heard.Request asked) =
    (request interface version).spells order 12 asked octets
SpellsCall interface kind.Locate version order octets (heard.Locate asked) =
    AreWhole (locate_request version) order octets asked
SpellsCall interface kind version order octets _ = ⊥

-- what stands behind an item that isn't refused: of a message the call that it spells, or, where
-- it spells none, an undecodable one by the first fault in its octets; Fragments behind a cancel
-- change nothing; a CancelRequest, and what the server does, by the table of steps
abbrev pub server_behind : Interface → Option ServerEntry → ServerItem → Option ServerEntry
server_behind interface entry (Got call) = Some (arrived call)
server_behind interface entry (Bad kind version order octets) =
    Some (arrived (heard_call interface kind version order octets))
server_behind interface entry (Begun kind) = Some (Gathering kind)
server_behind interface entry (Rest ends) = entry
server_behind interface entry Cancel = (server_step entry event.Cancel).entry
server_behind interface entry (Did (Hears event)) = (server_step entry event).entry
server_behind interface entry (Did IsTaken) = None

-- what a server meets says this of its calls
abbrev pub server_telling : Interface → Telling (Option ServerEntry) HeardCall ServerEvent
server_telling interface = record {
  type_of = asks;
  Spells = λ entry. SpellsCall interface;
  Cancels = λ m. m.kind ≡ message.CancelRequest;
  WasCancelled = λ entry. (answered : Bool) × (left : ℕ) × (entry ≡ Some (Cancelled answered left));
  behind = server_behind interface;
}

-- messages carry a call to a server, whatever stands there
abbrev pub CarryCall : Interface → Option ServerEntry → HeardCall → List Msg → Type 0
CarryCall interface entry call messages =
    CarriesItem (server_telling interface) entry (Got call) (map Comes messages)

-- these messages are a Request, written in a version and a byte order and cut into pieces of a size
abbrev pub IsRequestIn : Interface → Version → Order → Request → ℕ → List Msg → Type 0
IsRequestIn interface version order asked piece sent =
    IsWrittenAs (request interface version) order asked message.Request piece version sent

-- and these a LocateRequest
abbrev pub IsLocateRequestIn : Version → Order → AnyLocateRequest → ℕ → List Msg → Type 0
IsLocateRequestIn version order asked piece sent =
    IsWrittenAs (ended (locate_request version)) order asked message.LocateRequest piece version sent
