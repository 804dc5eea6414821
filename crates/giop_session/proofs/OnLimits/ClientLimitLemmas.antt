-- What the messages of a client's end ask of its limits.
use Rattle.std.proofs.Common.{◌≡◌, ℕ, Bool, true, false, cond, List, ◌++◌, length, Option, Some, None, is_some, refl, arith}
use Rattle.giop_types.specs.declared.interfaces.interface.Interface.{Interface}
use Rattle.giop_msg.specs.declared.kind.Kind.{Kind}
use Rattle.giop_msg.specs.declared.kind.Kind.TheVariants as message
use Rattle.giop_msg.specs.declared.msg.Msg.{Msg}
use Rattle.giop_calls.specs.declared.fault.CallFault.{CallFault}
use Rattle.giop_calls.specs.declared.kind.CallKind.{CallKind}
use Rattle.giop_calls.specs.declared.kind.CallKind.TheVariants as kind
use Rattle.giop_calls.specs.declared.client.call.Call.{Call as Asked}
use Rattle.giop_calls.specs.declared.client.entry.ClientEntry.{ClientEntry}
use Rattle.giop_calls.specs.declared.client.event.ClientEvent.{ClientEvent}
use Rattle.giop_calls.specs.declared.client.event.ClientEvent.TheVariants as event
use Rattle.giop_calls.specs.declared.client.heard.HeardReply.TheVariants as heard
use Rattle.giop_calls.specs.ClientTable.{client_step}
use Rattle.giop_end.specs.declared.session_fault.SessionFault.{SessionFault}
use Rattle.giop_table.specs.CallTable.{Call, First, Hears, More, Nothing}
use Rattle.giop_end.specs.Hearing.ClientHears.{awaited, act_by_kind, breaks_by, client_act, client_breaks, comes, gathered_call, heard_reply, client_pieces}
use Rattle.giop_end.specs.Hearing.Pieces.{continued, continues}
use Rattle.giop_end.specs.Hearing.Heard.{behind_id, in_call, silently}
use Rattle.giop_session.specs.Runs.Limits.{begins_at_client, octets_by, octets_with}
use Rattle.giop_session.proofs.OnLimits.LimitLemmas.{IsSmall, IsUnlimited}

-- an id without a call gets one only by an event that begins it
pub begins_only : (v : ClientEvent) → is_some (client_step None v).entry ≡ true → begins_at_client v ≡ true
begins_only (event.Call call pieces) is = refl
begins_only event.Send is = is
begins_only event.Cancel is = is
begins_only (event.First kind version) is = is
begins_only (event.Whole kind version reply) is = is
begins_only (event.More in_order) is = is
begins_only (event.Last in_order reply) is = is

comes_small : (interface : Interface) (kind : CallKind) (m : Msg) (call : Option Asked)
    → IsSmall begins_at_client false (cond m.more (length m.payload) 0) (comes interface kind m call)
comes_small interface kind m None = by_more m.more
  where
    by_more : (b : Bool) → IsSmall begins_at_client false (cond b (length m.payload) 0)
        (cond b (Hears (silently (event.First kind m.version)) Nothing) (Hears (silently (event.Whole kind m.version heard.Unread)) Nothing))
    by_more true = (λ is. is, omega arith)
    by_more false = (λ is. is, omega arith)
comes_small interface kind m (Some call) = by_more m.more
  where
    by_more : (b : Bool) → IsSmall begins_at_client false (cond b (length m.payload) 0)
        (cond b (Hears (silently (event.First kind m.version)) (First m.order m.payload))
        (Hears (silently (event.Whole kind m.version (heard_reply interface call m.version m.order m.payload))) Nothing))
    by_more true = (λ is. is, omega arith)
    by_more false = (λ is. is, omega arith)

continues_small : (interface : Interface) (m : Msg) (pieces : Option (Asked × List ℕ))
    → IsSmall begins_at_client false (length (behind_id m)) (continues client_pieces interface m pieces)
continues_small interface m None = by_more m.more
  where
    by_more : (b : Bool) → IsSmall begins_at_client false (length (behind_id m))
        (Hears (silently (cond b (event.More false) (event.Last false heard.Unread))) Nothing)
    by_more true = (λ is. is, omega arith)
    by_more false = (λ is. is, omega arith)
continues_small interface m (Some pieces) = by_more m.more
  where
    by_more : (b : Bool) → IsSmall begins_at_client false (length (behind_id m)) (cond b
        (Hears (silently (event.More true)) (More (behind_id m)))
        (Hears (silently (event.Last true (heard_reply interface pieces.0 m.version m.order (pieces.1 ++ behind_id m)))) (More (behind_id m))))
    by_more true = (λ is. is, omega arith)
    by_more false = (λ is. is, omega arith)

-- what a message does to a call
pub small : (interface : Interface) (m : Msg) (call : Call ClientEntry)
    → IsSmall begins_at_client false (octets_with m) (client_act interface m call)
small interface m call = by_kind m.kind
  where
    by_kind : (of_kind : Kind) → IsSmall begins_at_client false (octets_by of_kind m) (act_by_kind interface m call of_kind)
    by_kind message.Reply = comes_small interface kind.Request m (awaited kind.Request m.version call.slot)
    by_kind message.LocateReply = comes_small interface kind.Locate m (awaited kind.Locate m.version call.slot)
    by_kind message.Fragment = continues_small interface m (continued m.order (gathered_call call.slot) call.pieces)
    by_kind message.Request = tt
    by_kind message.LocateRequest = tt
    by_kind message.CancelRequest = tt
    by_kind message.CloseConnection = tt
    by_kind message.MessageError = tt

-- a call's own fault is no limit, nor is what ends a session
pub own : (id : ℕ) (fault : CallFault) → IsUnlimited (in_call id fault)
own id fault = (λ same. cc, λ same. cc)

pub broken : (m : Msg) (why : SessionFault) → client_breaks m ≡ Some why → IsUnlimited why
broken m why = by_kind m.kind
  where
    by_kind : (of_kind : Kind) → breaks_by of_kind ≡ Some why → IsUnlimited why
    by_kind message.Reply is = absurd cc
    by_kind message.LocateReply is = absurd cc
    by_kind message.Fragment is = absurd cc
    by_kind message.Request is = (λ same. cc, λ same. cc)
    by_kind message.LocateRequest is = (λ same. cc, λ same. cc)
    by_kind message.CancelRequest is = (λ same. cc, λ same. cc)
    by_kind message.CloseConnection is = (λ same. cc, λ same. cc)
    by_kind message.MessageError is = (λ same. cc, λ same. cc)
