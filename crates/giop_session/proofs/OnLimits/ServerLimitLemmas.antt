-- What the messages of a server's end ask of its limits.
use Rattle.std.proofs.Common.{◌≡◌, ℕ, Bool, true, false, cond, List, ◌++◌, length, Option, Some, None, is_some, refl, arith}
use Rattle.giop_types.specs.declared.interfaces.interface.Interface.{Interface}
use Rattle.giop_msg.specs.declared.kind.Kind.{Kind}
use Rattle.giop_msg.specs.declared.kind.Kind.TheVariants as message
use Rattle.giop_msg.specs.declared.msg.Msg.{Msg}
use Rattle.giop_calls.specs.declared.fault.CallFault.{CallFault}
use Rattle.giop_calls.specs.declared.kind.CallKind.{CallKind}
use Rattle.giop_calls.specs.declared.kind.CallKind.TheVariants as kind
use Rattle.giop_calls.specs.declared.server.entry.ServerEntry.{ServerEntry}
use Rattle.giop_calls.specs.declared.server.event.ServerEvent.{ServerEvent}
use Rattle.giop_calls.specs.declared.server.event.ServerEvent.TheVariants as event
use Rattle.giop_calls.specs.ServerTable.{server_step}
use Rattle.giop_end.specs.declared.session_fault.SessionFault.{SessionFault}
use Rattle.giop_table.specs.CallTable.{Call, First, Hears, More, Nothing}
use Rattle.giop_end.specs.Hearing.Decoding.{heard_call}
use Rattle.giop_end.specs.Hearing.Heard.{behind_id, in_call, silently}
use Rattle.giop_session.specs.Runs.Limits.{begins_at_server, is_asking, octets_by, octets_with}
use Rattle.giop_end.specs.Hearing.ServerHears.{act_by_kind, breaks_by, comes, gathered_kind, server_act, server_breaks, server_pieces}
use Rattle.giop_end.specs.Hearing.Pieces.{continued, continues}
use Rattle.giop_session.proofs.OnLimits.LimitLemmas.{IsSmall, IsUnlimited}

-- an id without a call gets one only by an event that begins it
pub begins_only : (v : ServerEvent) → is_some (server_step None v).entry ≡ true → begins_at_server v ≡ true
begins_only (event.First kind) is = refl
begins_only (event.Whole call) is = refl
begins_only (event.More in_order) is = is
begins_only (event.Last in_order call) is = is
begins_only event.Cancel is = is
begins_only (event.Answer reply pieces) is = is
begins_only (event.AnswerLocate here) is = is
begins_only event.Send is = is

comes_small : (interface : Interface) (kind : CallKind) (m : Msg)
    → IsSmall begins_at_server true (cond m.more (length m.payload) 0) (comes interface kind m)
comes_small interface kind m = by_more m.more
  where
    by_more : (b : Bool) → IsSmall begins_at_server true (cond b (length m.payload) 0)
        (cond b (Hears (silently (event.First kind)) (First m.order m.payload))
        (Hears (silently (event.Whole (heard_call interface kind m.version m.order m.payload))) Nothing))
    by_more true = (λ is. refl, omega arith)
    by_more false = (λ is. refl, omega arith)

continues_small : (interface : Interface) (m : Msg) (pieces : Option (CallKind × List ℕ))
    → IsSmall begins_at_server false (length (behind_id m)) (continues server_pieces interface m pieces)
continues_small interface m None = (λ is. is, omega arith)
continues_small interface m (Some pieces) = by_more m.more
  where
    by_more : (b : Bool) → IsSmall begins_at_server false (length (behind_id m)) (cond b
        (Hears (silently (event.More true)) (More (behind_id m)))
        (Hears (silently (event.Last true (heard_call interface pieces.0 m.version m.order (pieces.1 ++ behind_id m)))) (More (behind_id m))))
    by_more true = (λ is. is, omega arith)
    by_more false = (λ is. is, omega arith)

-- what a message does to a call
pub small : (interface : Interface) (m : Msg) (call : Call ServerEntry)
    → IsSmall begins_at_server (is_asking m.kind) (octets_with m) (server_act interface m call)
small interface m call = by_kind m.kind
  where
    by_kind : (of_kind : Kind) → IsSmall begins_at_server (is_asking of_kind) (octets_by of_kind m) (act_by_kind interface m call of_kind)
    by_kind message.Request = comes_small interface kind.Request m
    by_kind message.LocateRequest = comes_small interface kind.Locate m
    by_kind message.Fragment = continues_small interface m (continued m.order (gathered_kind call.slot) call.pieces)
    by_kind message.CancelRequest = (λ is. is, omega arith)
    by_kind message.Reply = tt
    by_kind message.LocateReply = tt
    by_kind message.CloseConnection = tt
    by_kind message.MessageError = tt

-- a call's own fault is no limit, nor is what ends a session
pub own : (id : ℕ) (fault : CallFault) → IsUnlimited (in_call id fault)
own id fault = (λ same. cc, λ same. cc)

pub broken : (m : Msg) (why : SessionFault) → server_breaks m ≡ Some why → IsUnlimited why
broken m why = by_kind m.kind
  where
    by_kind : (of_kind : Kind) → breaks_by of_kind ≡ Some why → IsUnlimited why
    by_kind message.Request is = absurd cc
    by_kind message.LocateRequest is = absurd cc
    by_kind message.CancelRequest is = absurd cc
    by_kind message.Fragment is = absurd cc
    by_kind message.Reply is = (λ same. cc, λ same. cc)
    by_kind message.LocateReply is = (λ same. cc, λ same. cc)
    by_kind message.CloseConnection is = (λ same. cc, λ same. cc)
    by_kind message.MessageError is = (λ same. cc, λ same. cc)
