-- What a message of the server does at a client (CORBA 3.3 Part 2, 9.4).
use Rattle.std.specs.Prelude.{◌≡◌, ℕ, true, false, if◌then◌else◌, List, Option, Some, None, Result, Ok, Err}
use Rattle.std.specs.FinMap as finite
use Rattle.giop_cdr.specs.declared.order.Order.{Order}
use Rattle.giop_cdr.specs.declared.fault.CdrFault.{CdrFault}
use Rattle.giop_types.specs.declared.interfaces.interface.Interface.{Interface}
use Rattle.giop_msg.specs.declared.kind.Kind.{Kind}
use Rattle.giop_msg.specs.declared.kind.Kind.TheVariants as message
use Rattle.giop_msg.specs.declared.messages.locate_reply.LocateReply.{LocateReply}
use Rattle.giop_msg.specs.declared.messages.reply.Reply.{Reply}
use Rattle.giop_msg.specs.declared.msg.Msg.{Msg}
use Rattle.giop_msg.specs.declared.version.Version.{Version}
use Rattle.giop_msg.specs.Joined.{joined_from}
use Rattle.giop_msg.specs.Messages.LocateReply.{locate_reply}
use Rattle.giop_msg.specs.Messages.Reply.{reply}
use Rattle.giop_calls.specs.declared.client.call.Call.{Call as Asked}
use Rattle.giop_calls.specs.declared.client.call.Call.TheVariants as asked
use Rattle.giop_calls.specs.declared.client.entry.ClientEntry.{ClientEntry}
use Rattle.giop_calls.specs.declared.client.entry.ClientEntry.TheVariants.{Waiting, Gathering}
use Rattle.giop_calls.specs.declared.client.event.ClientEvent.{ClientEvent}
use Rattle.giop_calls.specs.declared.client.rule.ClientRule.{ClientRule}
use Rattle.giop_calls.specs.declared.client.event.ClientEvent.TheVariants as event
use Rattle.giop_calls.specs.declared.client.heard.HeardReply.{HeardReply}
use Rattle.giop_calls.specs.declared.client.heard.HeardReply.TheVariants as heard
use Rattle.giop_calls.specs.declared.fault.CallFault.{CallFault}
use Rattle.giop_calls.specs.declared.kind.CallKind.{CallKind}
use Rattle.giop_calls.specs.declared.kind.CallKind.TheVariants as kind
use Rattle.giop_calls.specs.ClientTable.{answers, client_step, is_closed, is_gathering}
use Rattle.giop_end.specs.declared.session_fault.SessionFault.{SessionFault}
use Rattle.giop_table.specs.declared.slot.Slot.{Slot}
use Rattle.giop_table.specs.CallTable.{Act, Call, Hears, First, Nothing, Held, rules_of}
use Rattle.giop_end.specs.Hearing.Heard.{Effect, Heard, IsHeard, SideOf, effect_act, ending_of, breaks_of, in_call, silently}
use Rattle.giop_end.specs.Hearing.Pieces.{PiecesOf, continues_in, known_at}

-- a Reply, by what reading it gives
abbrev pub heard_reply_by : Result Reply CdrFault → HeardReply
heard_reply_by (Ok reply) = heard.Reply reply
heard_reply_by (Err e) = heard.Undecoded e

-- a LocateReply likewise
abbrev pub heard_located_by : Result LocateReply CdrFault → HeardReply
heard_located_by (Ok reply) = heard.Locate reply
heard_located_by (Err e) = heard.Undecoded e

-- what joined octets come to that answer a call
abbrev pub heard_reply : Interface → Asked → Version → Order → List ℕ → HeardReply
heard_reply interface (asked.Request request) version order joined =
    heard_reply_by ((reply interface (Some request) version).read (joined_from order joined))
heard_reply interface (asked.Locate request) version order joined =
    heard_located_by ((locate_reply version).read (joined_from order joined))

-- the call of an entry, where it waits for a message of this kind and version
abbrev pub awaited_in : CallKind → Version → ClientEntry → Option Asked
awaited_in kind version (Waiting call) = if answers kind version call then Some call else None
awaited_in kind version _ = None

-- the call that waits so under an id
abbrev pub awaited : CallKind → Version → Option (Slot ClientEntry) → Option Asked
awaited kind version None = None
awaited kind version (Some slot) = awaited_in kind version slot.entry

-- what joined octets come to, at the message that brings the last of them
abbrev pub reply_in : Interface → Asked → Msg → List ℕ → HeardReply
reply_in interface call m joined = heard_reply interface call m.version m.order joined

-- the first piece of a reply comes, for a call that waits for it: its octets are gathered
abbrev pub begins : CallKind → Msg → Act ClientEvent
begins kind m = Hears (silently (event.First kind m.version)) (First m.order m.payload)

-- all of one comes, for such a call
abbrev pub arrives : Interface → CallKind → Msg → Asked → Act ClientEvent
arrives interface kind m call =
    Hears (silently (event.Whole kind m.version (reply_in interface call m m.payload))) Nothing

-- a Reply or a LocateReply comes, its first piece or all of it, for this call; it is neither
-- gathered nor decoded where none waits for it
abbrev pub comes : Interface → CallKind → Msg → Option Asked → Act ClientEvent
comes interface kind m None =
    if m.more then Hears (silently (event.First kind m.version)) Nothing
    else Hears (silently (event.Whole kind m.version heard.Unread)) Nothing
comes interface kind m (Some call) =
    if m.more then begins kind m else arrives interface kind m call

-- the call of an entry, where its reply is gathered
abbrev pub gathered_in : ClientEntry → Option Asked
gathered_in (Gathering call) = Some call
gathered_in _ = None

-- the call under an id whose reply is gathered
abbrev pub gathered_call : Option (Slot ClientEntry) → Option Asked
gathered_call = known_at gathered_in

-- of a call that waits so under an id this is said, if one does
abbrev pub OfAwaited : {R : Type 0} → CallKind → Version → Held R ClientEntry → ℕ
    → (Asked → Type 0) → Type 0
OfAwaited kind version h id Says =
    (call : Asked) → awaited kind version (finite.get h.table id) ≡ Some call → Says call

-- how a client joins the pieces of a Reply or a LocateReply
abbrev pub client_pieces : PiecesOf ClientEntry ClientEvent Asked HeardReply
client_pieces = record {
  known = gathered_in;
  whole = reply_in;
  more = event.More true;
  last = event.Last true;
  stray = λ m. if m.more then event.More false else event.Last false heard.Unread;
}

-- what a message of each type is to a client: a server sends it, and it is this act on its call;
-- or it ends the session, since a server doesn't send it, or says so
abbrev pub effect_by : Kind → Effect ClientEntry ClientEvent
effect_by message.Reply = Ok (λ interface m call.
    comes interface kind.Request m (awaited kind.Request m.version call.slot))
effect_by message.LocateReply = Ok (λ interface m call.
    comes interface kind.Locate m (awaited kind.Locate m.version call.slot))
effect_by message.Fragment = Ok (continues_in client_pieces)
effect_by kind = Err (ending_of kind)

-- why one ends the session, if it does
abbrev pub breaks_by : Kind → Option SessionFault
breaks_by kind = breaks_of (effect_by kind)

abbrev pub client_breaks : Msg → Option SessionFault
client_breaks m = breaks_by m.kind

-- the act that one is on the call that it names
abbrev pub act_by_kind : Interface → Msg → Call ClientEntry → Kind → Act ClientEvent
act_by_kind interface m call kind = effect_act (effect_by kind) interface m call

abbrev pub client_act : Interface → Msg → Call ClientEntry → Act ClientEvent
client_act interface m call = act_by_kind interface m call m.kind

-- a client hears a message that does this, and leaves these calls
abbrev pub AtClient : {R : Type 0} → Heard ClientEvent → Held R ClientEntry
    → Result (Unit {0}) SessionFault → Held R ClientEntry → Type 0
AtClient = IsHeard (rules_of client_step is_closed is_gathering) in_call

-- a client's side of a connection
abbrev pub client_side : Interface → SideOf ClientRule ClientEntry ClientEvent (Unit {0}) CallFault
client_side interface = record {
  next = λ rule. client_step;
  closed = λ rule. is_closed;
  gathering = is_gathering;
  of_rule = in_call;
  breaks = client_breaks;
  act_by = client_act interface;
}
