-- What a message of the client does at a server (CORBA 3.3 Part 2, 9.4).
use Rattle.std.specs.Prelude.{ℕ, true, false, if◌then◌else◌, List, ◌++◌, Option, Some, None, Result}
use Rattle.giop_cdr.specs.declared.order.Order.{Order}
use Rattle.giop_types.specs.declared.json.interface.Interface.{Interface}
use Rattle.giop_msg.specs.declared.kind.Kind.{Kind}
use Rattle.giop_msg.specs.declared.kind.Kind.TheVariants as message
use Rattle.giop_msg.specs.declared.msg.Msg.{Msg}
use Rattle.giop_frag.specs.Gathered.{Pieces, same_order}
use Rattle.giop_calls.specs.declared.fault.CallFault.{CallFault}
use Rattle.giop_calls.specs.declared.kind.CallKind.{CallKind}
use Rattle.giop_calls.specs.declared.kind.CallKind.TheVariants as kind
use Rattle.giop_calls.specs.declared.server.entry.ServerEntry.{ServerEntry}
use Rattle.giop_calls.specs.declared.server.entry.ServerEntry.TheVariants.{Gathering}
use Rattle.giop_calls.specs.declared.server.event.ServerEvent.{ServerEvent}
use Rattle.giop_calls.specs.declared.server.rule.ServerRule.{ServerRule}
use Rattle.giop_calls.specs.declared.server.event.ServerEvent.TheVariants as event
use Rattle.giop_session.specs.declared.session_fault.SessionFault.{SessionFault}
use Rattle.giop_session.specs.declared.session_fault.SessionFault.TheVariants.{WrongDirection, PeerError, Closed}
use Rattle.giop_session.specs.declared.calls.slot.Slot.{Slot}
use Rattle.giop_calls.specs.ServerTable.{server_step, is_closed, is_gathering}
use Rattle.giop_session.specs.Calls.CallTable.{Act, Call, Hears, First, More, Nothing, Held, rules_of}
use Rattle.giop_session.specs.Hearing.Decoding.{heard_call}
use Rattle.giop_session.specs.Hearing.Heard.{Heard, IsHeard, SideOf, behind_id, in_call, kept}

-- a Request or a LocateRequest comes: its first piece, whose octets are gathered, or all of it
abbrev pub comes : Interface → CallKind → Msg → Act ServerEvent
comes interface kind m =
    if m.more
    then Hears (kept (event.First kind)) (First m.order m.payload)
    else Hears (kept (event.Whole (heard_call interface kind m.version m.order m.payload))) Nothing

-- which message is gathered, if one is
abbrev pub kind_in : ServerEntry → Option CallKind
kind_in (Gathering kind) = Some kind
kind_in _ = None

-- under an id
abbrev pub gathered_kind : Option (Slot ServerEntry) → Option CallKind
gathered_kind None = None
gathered_kind (Some slot) = kind_in slot.entry

-- the pieces that a Fragment of this byte order continues, with the kind of their message
abbrev pub continued : Order → Option CallKind → Option Pieces → Option (CallKind × List ℕ)
continued order (Some kind) (Some pieces) =
    if same_order order pieces.order then Some (kind, pieces.octets) else None
continued order kind pieces = None

-- a Fragment comes, whose first four octets are its request id (9.4.9); it continues these pieces,
-- or none
abbrev pub continues : Interface → Msg → Option (CallKind × List ℕ) → Act ServerEvent
continues interface m None = Hears (kept (event.More false)) Nothing
continues interface m (Some pieces) =
    if m.more
    then Hears (kept (event.More true)) (More (behind_id m))
    else Hears (kept (event.Last true (heard_call interface pieces.0 m.version m.order
    (pieces.1 ++ behind_id m)))) (More (behind_id m))

-- why a message ends the session, if it does: a client doesn't send it, or it says so
abbrev pub breaks_by : Kind → Option SessionFault
breaks_by message.Request = None
breaks_by message.LocateRequest = None
breaks_by message.CancelRequest = None
breaks_by message.Fragment = None
breaks_by message.Reply = Some WrongDirection
breaks_by message.LocateReply = Some WrongDirection
breaks_by message.CloseConnection = Some Closed
breaks_by message.MessageError = Some PeerError

-- by its message type
abbrev pub server_breaks : Msg → Option SessionFault
server_breaks m = breaks_by m.kind

-- what befalls the call that a message names
abbrev pub befalls_by : Interface → Msg → Call ServerEntry → Kind → Act ServerEvent
befalls_by interface m call message.Request = comes interface kind.Request m
befalls_by interface m call message.LocateRequest = comes interface kind.Locate m
befalls_by interface m call message.CancelRequest = Hears (kept event.Cancel) Nothing
befalls_by interface m call message.Fragment =
    continues interface m (continued m.order (gathered_kind call.slot) call.pieces)
befalls_by interface m call _ = Hears (kept event.Cancel) Nothing

-- by the message and that call
abbrev pub server_befalls : Interface → Msg → Call ServerEntry → Act ServerEvent
server_befalls interface m call = befalls_by interface m call m.kind

-- a server hears a message that does this, and leaves these calls
abbrev pub AtServer : {R : Type 0} → Heard ServerEvent → Held R ServerEntry
    → Result (Unit {0}) SessionFault → Held R ServerEntry → Type 0
AtServer = IsHeard (rules_of server_step is_closed is_gathering) in_call

-- a server's side of a connection
abbrev pub server_side : Interface → SideOf ServerRule ServerEntry ServerEvent (Unit {0}) CallFault
server_side interface = record {
  next = λ rule. server_step;
  closed = λ rule. is_closed;
  gathering = is_gathering;
  of_rule = in_call;
  breaks = server_breaks;
  befalls = server_befalls interface;
}
