-- What holds of a run of a client's end.
use Rattle.std.proofs.Common.{◌≡◌, ℕ, Option, Some, None, refl, sym, ap, subst, ◌∙◌}
use Rattle.giop_types.specs.declared.interfaces.interface.Interface.{Interface}
use Rattle.giop_cdr.specs.declared.order.Order.{Order}
use Rattle.giop_msg.specs.declared.kind.Kind.TheVariants as message
use Rattle.giop_msg.specs.declared.version.Version.{Version}
use Rattle.giop_calls.specs.declared.client.call.Call.TheVariants as asked
use Rattle.giop_calls.specs.declared.client.entry.ClientEntry.{ClientEntry}
use Rattle.giop_calls.specs.declared.client.event.ClientEvent.{ClientEvent}
use Rattle.giop_calls.specs.declared.client.event.ClientEvent.TheVariants as event
use Rattle.giop_calls.specs.declared.client.rule.ClientRule.{ClientRule}
use Rattle.giop_session.specs.declared.laws.inputs.ClientInput.{ClientInput}
use Rattle.giop_session.specs.declared.laws.inputs.ClientInput.TheVariants as input
use Rattle.giop_end.specs.declared.limits.Limits.{Limits}
use Rattle.giop_table.specs.declared.plan.Planned.{Planned}
use Rattle.giop_end.specs.Acts.ClientCalls.{IsCall, IsCancel, IsLocate, call_fault, cancel_fault, locate_fault, locate_octets, open_version, request_octets}
use Rattle.giop_table.specs.CallTable.{Held, at, entry_at}
use Rattle.giop_table.specs.Sending.{entry_of}
use Rattle.giop_session.specs.Runs.ClientRuns.{at_client, client_deed, client_named, client_run}
use Rattle.giop_session.specs.Runs.Driven.{PutsOut}
use Rattle.giop_session.proofs.OnItems.ClientHeldLemmas.{is_own, owns, client_said}
use Rattle.giop_session.proofs.OnItems.ClientItemLemmas.{client_item_leaves}
use Rattle.giop_session.proofs.OnLimits.ClientRunLimitLemmas.{client_run_free}
use Rattle.giop_session.proofs.OnRuns.AheadLemmas.{IsPlannedOnce}
use Rattle.giop_session.proofs.OnRuns.AloneLemmas.{IsDeedOf}
use Rattle.giop_session.proofs.OnSides.KeptApart.{IsRun}
use Rattle.giop_session.proofs.OnRuns.PlannedLemmas.{sent_once}

cancelled_once : (id : ℕ) (order : Order) (version : Option Version) (one other : Planned ClientEvent)
    → IsCancel id order version one → IsCancel id order version other → one ≡ other
cancelled_once id order None one other is also = absurd is
cancelled_once id order (Some version) one other is also = is.1 ∙ sym also.1

once : (interface : Interface) (limits : Limits) (h : Held ClientRule ClientEntry) (given : ClientInput)
    → IsPlannedOnce (client_deed interface limits h given)
once interface limits h (input.Feed octets) = tt
once interface limits h (input.Call request form) =
    λ one other is also. sent_once request.head.version message.Request form.form (request_octets interface request form.form.order)
    (event.Call (asked.Request request)) one other is.sent also.sent
once interface limits h (input.Locate request form) =
    λ one other is also. sent_once request.version message.LocateRequest form.form (locate_octets request form.form.order)
    (event.Call (asked.Locate request)) one other is.sent also.sent
once interface limits h (input.Cancel id order) = λ one other is also. cancelled_once id order (open_version (entry_at h id)) one other is also
once interface limits h (input.Send id) = λ one other is also. is ∙ sym also
once interface limits h (input.Take id) = tt
once interface limits h input.Close = tt

is_deed : (interface : Interface) (limits : Limits) (h : Held ClientRule ClientEntry) (given : ClientInput)
    → IsDeedOf (at_client.fed given) (at_client.named given) (client_deed interface limits h given)
is_deed interface limits h (input.Feed octets) = (refl, refl)
is_deed interface limits h (input.Call request form) = (refl, refl)
is_deed interface limits h (input.Locate request form) = (refl, refl)
is_deed interface limits h (input.Cancel id order) = (refl, refl)
is_deed interface limits h (input.Send id) = (refl, refl)
is_deed interface limits h (input.Take id) = (refl, refl)
is_deed interface limits h input.Close = (refl, refl)

-- an end that holds the same of an id has the same entry for it
same_entry : (h k : Held ClientRule ClientEntry) (id named : ℕ) → named ≡ id → at h id ≡ at k id → entry_at h named ≡ entry_at k named
same_entry h k id named is same = subst (λ q. entry_at h q ≡ entry_at k q) (sym is) (ap (λ call. entry_of call.slot) same)

same_deed : (interface : Interface) (limits : Limits) (h k : Held ClientRule ClientEntry) (given : ClientInput) (id : ℕ)
    → client_named given ≡ Some id → at h id ≡ at k id → client_deed interface limits h given ≡ client_deed interface limits k given
same_deed interface limits h k (input.Feed octets) id name same = refl
same_deed interface limits h k (input.Call request form) id name same =
    let is : request.head.id ≡ id = cc in
    ap (λ entry. PutsOut request.head.id (call_fault interface limits entry request form.form) (IsCall interface request form.form))
    (same_entry h k id request.head.id is same)
same_deed interface limits h k (input.Locate request form) id name same =
    let is : request.id ≡ id = cc in
    ap (λ entry. PutsOut request.id (locate_fault limits entry request form.form) (IsLocate request form.form)) (same_entry h k id request.id is same)
same_deed interface limits h k (input.Cancel named order) id name same =
    let is : named ≡ id = cc in
    ap (λ entry. PutsOut named (cancel_fault (open_version entry)) (IsCancel named order (open_version entry))) (same_entry h k id named is same)
same_deed interface limits h k (input.Send named) id name same = refl
same_deed interface limits h k (input.Take named) id name same = refl
same_deed interface limits h k input.Close id name same = refl

pub client_run_is : (interface : Interface) → IsRun (client_run interface)
client_run_is interface = record {
  is_deed = is_deed interface;
  feeds = λ limits h octets. refl;
  feeds_none = λ octets. refl;
  same_deed = same_deed interface;
  once = once interface;
  own = is_own;
  owns = owns interface;
  free = client_run_free interface;
  first = refl;
  leaves = client_item_leaves interface;
  said = λ limits. client_said interface limits.message;
}
