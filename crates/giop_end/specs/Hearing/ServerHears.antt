-- What a message of the client does at a server (CORBA 3.3 Part 2, 9.4).
use Rattle.std.specs.Prelude.{ℕ, true, false, if◌then◌else◌, List, Option, Some, None, Result, Ok, Err}
use Rattle.giop_types.specs.declared.interfaces.interface.Interface.{Interface}
use Rattle.giop_msg.specs.declared.kind.Kind.{Kind}
use Rattle.giop_msg.specs.declared.kind.Kind.TheVariants as message
use Rattle.giop_msg.specs.declared.msg.Msg.{Msg}
use Rattle.giop_calls.specs.declared.fault.CallFault.{CallFault}
use Rattle.giop_calls.specs.declared.kind.CallKind.{CallKind}
use Rattle.giop_calls.specs.declared.kind.CallKind.TheVariants as kind
use Rattle.giop_calls.specs.declared.server.entry.ServerEntry.{ServerEntry}
use Rattle.giop_calls.specs.declared.server.entry.ServerEntry.TheVariants.{Gathering}
use Rattle.giop_calls.specs.declared.server.event.ServerEvent.{ServerEvent}
use Rattle.giop_calls.specs.declared.server.heard.HeardCall.{HeardCall}
use Rattle.giop_calls.specs.declared.server.rule.ServerRule.{ServerRule}
use Rattle.giop_calls.specs.declared.server.event.ServerEvent.TheVariants as event
use Rattle.giop_end.specs.declared.session_fault.SessionFault.{SessionFault}
use Rattle.giop_table.specs.declared.slot.Slot.{Slot}
use Rattle.giop_calls.specs.ServerTable.{server_step, is_closed, is_gathering}
use Rattle.giop_table.specs.CallTable.{Act, Call, Hears, First, Nothing, Held, rules_of}
use Rattle.giop_end.specs.Hearing.Decoding.{heard_call}
use Rattle.giop_end.specs.Hearing.Heard.{Effect, Heard, IsHeard, SideOf, effect_act, ending_of, breaks_of, in_call, silently}
use Rattle.giop_end.specs.Hearing.Pieces.{PiecesOf, continues_in, known_at}

-- what joined octets come to, at the message that brings the last of them
abbrev pub call_in : Interface → CallKind → Msg → List ℕ → HeardCall
call_in interface kind m joined = heard_call interface kind m.version m.order joined

-- the first piece of a Request or a LocateRequest comes: its octets are gathered
abbrev pub begins : CallKind → Msg → Act ServerEvent
begins kind m = Hears (silently (event.First kind)) (First m.order m.payload)

-- all of one comes
abbrev pub arrives : Interface → CallKind → Msg → Act ServerEvent
arrives interface kind m =
    Hears (silently (event.Whole (call_in interface kind m m.payload))) Nothing

-- a Request or a LocateRequest comes, its first piece or all of it
abbrev pub comes : Interface → CallKind → Msg → Act ServerEvent
comes interface kind m = if m.more then begins kind m else arrives interface kind m

-- which message is gathered, if one is
abbrev pub kind_in : ServerEntry → Option CallKind
kind_in (Gathering kind) = Some kind
kind_in _ = None

-- under an id
abbrev pub gathered_kind : Option (Slot ServerEntry) → Option CallKind
gathered_kind = known_at kind_in

-- how a server joins the pieces of a Request or a LocateRequest
abbrev pub server_pieces : PiecesOf ServerEntry ServerEvent CallKind HeardCall
server_pieces = record {
  known = kind_in;
  whole = call_in;
  more = event.More true;
  last = event.Last true;
  stray = λ m. event.More false;
}

-- what a message of each type is to a server: a client sends it, and it is this act on its call;
-- or it ends the session, since a client doesn't send it, or says so
abbrev pub effect_by : Kind → Effect ServerEntry ServerEvent
effect_by message.Request = Ok (λ interface m call. comes interface kind.Request m)
effect_by message.LocateRequest = Ok (λ interface m call. comes interface kind.Locate m)
effect_by message.CancelRequest = Ok (λ interface m call. Hears (silently event.Cancel) Nothing)
effect_by message.Fragment = Ok (continues_in server_pieces)
effect_by kind = Err (ending_of kind)

-- why one ends the session, if it does
abbrev pub breaks_by : Kind → Option SessionFault
breaks_by kind = breaks_of (effect_by kind)

abbrev pub server_breaks : Msg → Option SessionFault
server_breaks m = breaks_by m.kind

-- the act that one is on the call that it names
abbrev pub act_by_kind : Interface → Msg → Call ServerEntry → Kind → Act ServerEvent
act_by_kind interface m call kind = effect_act (effect_by kind) interface m call

abbrev pub server_act : Interface → Msg → Call ServerEntry → Act ServerEvent
server_act interface m call = act_by_kind interface m call m.kind

-- a server hears a message that does this, and leaves these calls
abbrev pub AtServer : {R : Type 0} → Heard ServerEvent → Held R ServerEntry
    → Result (Unit {0}) SessionFault → Held R ServerEntry → Type 0
AtServer = IsHeard (rules_of server_step is_closed is_gathering) in_call

-- a server's side of a connection
abbrev pub server_side : Interface → SideOf ServerRule ServerEntry ServerEvent (Unit {0}) CallFault
server_side interface = record {
  next = λ rule. server_step;
  closed = λ rule. is_closed;
  gathering = is_gathering;
  of_rule = in_call;
  breaks = server_breaks;
  act_by = server_act interface;
}
