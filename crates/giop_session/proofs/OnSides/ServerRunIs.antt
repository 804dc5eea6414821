-- What holds of a run of a server's end.
use Rattle.std.proofs.Common.{◌≡◌, ℕ, Bool, Option, Some, None, refl, sym, ap, subst, ◌∙◌}
use Rattle.giop_types.specs.declared.interfaces.interface.Interface.{Interface}
use Rattle.giop_cdr.specs.declared.order.Order.{Order}
use Rattle.giop_msg.specs.declared.kind.Kind.TheVariants as message
use Rattle.giop_msg.specs.declared.messages.reply.Reply.{Reply}
use Rattle.giop_msg.specs.declared.messages.request.Request.{Request}
use Rattle.giop_msg.specs.declared.version.Version.{Version}
use Rattle.giop_calls.specs.declared.server.entry.ServerEntry.{ServerEntry}
use Rattle.giop_calls.specs.declared.server.event.ServerEvent.{ServerEvent}
use Rattle.giop_calls.specs.declared.server.event.ServerEvent.TheVariants as event
use Rattle.giop_calls.specs.declared.server.rule.ServerRule.{ServerRule}
use Rattle.giop_end.specs.declared.acts.form.Form.{Form}
use Rattle.giop_session.specs.declared.laws.inputs.ServerInput.{ServerInput}
use Rattle.giop_session.specs.declared.laws.inputs.ServerInput.TheVariants as input
use Rattle.giop_end.specs.declared.limits.Limits.{Limits}
use Rattle.giop_table.specs.declared.plan.Planned.{Planned}
use Rattle.giop_end.specs.Acts.ServerAnswers.{IsAnswer, IsLocateAnswer, answer_fault, locate_of, question_of, reply_octets}
use Rattle.giop_table.specs.CallTable.{Held, at, entry_at}
use Rattle.giop_table.specs.Sending.{entry_of}
use Rattle.giop_session.specs.Runs.Driven.{PutsOut}
use Rattle.giop_session.specs.Runs.ServerRuns.{at_server, server_deed, server_named, server_run}
use Rattle.giop_session.proofs.OnItems.ServerHeldLemmas.{is_own, owns, server_said}
use Rattle.giop_session.proofs.OnItems.ServerItemLemmas.{server_item_leaves}
use Rattle.giop_session.proofs.OnLimits.ServerRunLimitLemmas.{server_run_free}
use Rattle.giop_session.proofs.OnRuns.AheadLemmas.{IsPlannedOnce}
use Rattle.giop_session.proofs.OnRuns.AloneLemmas.{IsDeedOf}
use Rattle.giop_session.proofs.OnSides.KeptApart.{IsRun}
use Rattle.giop_session.proofs.OnRuns.PlannedLemmas.{sent_once}

answered_once : (interface : Interface) (question : Option (Option Request)) (reply : Reply) (form : Form) (one other : Planned ServerEvent)
    → IsAnswer interface question reply form one → IsAnswer interface question reply form other → one ≡ other
answered_once interface None reply form one other is also = is ∙ sym also
answered_once interface (Some question) reply form one other is also =
    sent_once reply.version message.Reply form (reply_octets interface question reply form.order) (event.Answer reply) one other is.sent also.sent

located_once : (id : ℕ) (here : Bool) (order : Order) (version : Option Version) (one other : Planned ServerEvent)
    → IsLocateAnswer id here order version one → IsLocateAnswer id here order version other → one ≡ other
located_once id here order None one other is also = is ∙ sym also
located_once id here order (Some version) one other is also = is.1 ∙ sym also.1

once : (interface : Interface) (limits : Limits) (h : Held ServerRule ServerEntry) (given : ServerInput)
    → IsPlannedOnce (server_deed interface limits h given)
once interface limits h (input.Feed octets) = tt
once interface limits h (input.Answer reply form) =
    λ one other is also. answered_once interface (question_of (entry_at h reply.id)) reply form.form one other is also
once interface limits h (input.AnswerLocate id here order) =
    λ one other is also. located_once id here order (locate_of here (entry_at h id)) one other is also
once interface limits h (input.Send id) = λ one other is also. is ∙ sym also
once interface limits h (input.Take id) = tt
once interface limits h input.Close = tt

is_deed : (interface : Interface) (limits : Limits) (h : Held ServerRule ServerEntry) (given : ServerInput)
    → IsDeedOf (at_server.fed given) (at_server.named given) (server_deed interface limits h given)
is_deed interface limits h (input.Feed octets) = (refl, refl)
is_deed interface limits h (input.Answer reply form) = (refl, refl)
is_deed interface limits h (input.AnswerLocate id here order) = (refl, refl)
is_deed interface limits h (input.Send id) = (refl, refl)
is_deed interface limits h (input.Take id) = (refl, refl)
is_deed interface limits h input.Close = (refl, refl)

-- an end that holds the same of an id has the same entry for it
same_entry : (h k : Held ServerRule ServerEntry) (id named : ℕ) → named ≡ id → at h id ≡ at k id → entry_at h named ≡ entry_at k named
same_entry h k id named is same = subst (λ q. entry_at h q ≡ entry_at k q) (sym is) (ap (λ call. entry_of call.slot) same)

same_deed : (interface : Interface) (limits : Limits) (h k : Held ServerRule ServerEntry) (given : ServerInput) (id : ℕ)
    → server_named given ≡ Some id → at h id ≡ at k id → server_deed interface limits h given ≡ server_deed interface limits k given
same_deed interface limits h k (input.Feed octets) id name same = refl
same_deed interface limits h k (input.Answer reply form) id name same =
    let is : reply.id ≡ id = cc in
    ap (λ entry. PutsOut reply.id (answer_fault interface limits (question_of entry) reply form.form) (IsAnswer interface (question_of entry) reply form.form))
    (same_entry h k id reply.id is same)
same_deed interface limits h k (input.AnswerLocate named here order) id name same =
    let is : named ≡ id = cc in
    ap (λ entry. PutsOut named None (IsLocateAnswer named here order (locate_of here entry))) (same_entry h k id named is same)
same_deed interface limits h k (input.Send named) id name same = refl
same_deed interface limits h k (input.Take named) id name same = refl
same_deed interface limits h k input.Close id name same = refl

pub server_run_is : (interface : Interface) → IsRun (server_run interface)
server_run_is interface = record {
  is_deed = is_deed interface;
  feeds = λ limits h octets. refl;
  feeds_none = λ octets. refl;
  same_deed = same_deed interface;
  once = once interface;
  own = is_own;
  owns = owns interface;
  free = server_run_free interface;
  first = refl;
  leaves = server_item_leaves interface;
  said = λ limits. server_said interface limits.message;
}
