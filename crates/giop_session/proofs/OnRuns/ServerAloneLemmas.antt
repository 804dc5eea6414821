-- What fits a server's end is refused nothing by it.
use Rattle.std.proofs.Common.{◌≡◌, ℕ, Bool, List, Option, Some, None, refl, sym, ap, subst, ◌∙◌}
use Rattle.giop_types.specs.declared.json.interface.Interface.{Interface}
use Rattle.giop_cdr.specs.declared.order.Order.{Order}
use Rattle.giop_msg.specs.declared.kind.Kind.TheVariants as message
use Rattle.giop_msg.specs.declared.messages.reply.Reply.{Reply}
use Rattle.giop_msg.specs.declared.messages.request.Request.{Request}
use Rattle.giop_msg.specs.declared.version.Version.{Version}
use Rattle.giop_calls.specs.declared.server.entry.ServerEntry.{ServerEntry}
use Rattle.giop_calls.specs.declared.server.event.ServerEvent.{ServerEvent}
use Rattle.giop_calls.specs.declared.server.event.ServerEvent.TheVariants as event
use Rattle.giop_calls.specs.declared.server.rule.ServerRule.{ServerRule}
use Rattle.giop_session.specs.declared.acts.form.Form.{Form}
use Rattle.giop_session.specs.declared.laws.inputs.Answered.{Answered}
use Rattle.giop_session.specs.declared.laws.inputs.ServerInput.{ServerInput}
use Rattle.giop_session.specs.declared.laws.inputs.ServerInput.TheVariants as input
use Rattle.giop_session.specs.declared.limits.Limits.{Limits}
use Rattle.giop_session.specs.declared.calls.plan.Planned.{Planned}
use Rattle.giop_session.specs.Acts.ServerAnswers.{IsAnswer, IsLocateAnswer, answer_fault, locate_of, question_of, reply_octets}
use Rattle.giop_session.specs.Calls.Begun.{no_calls}
use Rattle.giop_session.specs.Calls.CallTable.{Held, at}
use Rattle.giop_session.specs.Calls.Sending.{entry_of}
use Rattle.giop_session.specs.Hearing.ServerHears.{server_side}
use Rattle.giop_session.specs.Items.Carries.{behind_all}
use Rattle.giop_session.specs.Items.ServerCarries.{ServerItem, server_telling}
use Rattle.giop_session.specs.Runs.Driven.{EndState, NoneRefused, PutsOut, item_answers}
use Rattle.giop_session.specs.Runs.Fits.{ServerFits, ServerIsAsAlone, ServerIsAsSaid, ServerSays, at_server, only}
use Rattle.giop_session.specs.Runs.Inputs.{nothing_unread}
use Rattle.giop_session.specs.Runs.Met.{given_alone}
use Rattle.giop_session.specs.Runs.ServerRuns.{ServerRuns, server_deed, server_entry, server_named}
use Rattle.giop_session.proofs.OnItems.ServerHeadline.{server_answers, server_entries}
use Rattle.giop_session.proofs.OnLimits.ServerRunLimitLemmas.{server_run_free}
use Rattle.giop_session.proofs.OnRuns.AheadLemmas.{IsPlannedOnce}
use Rattle.giop_session.proofs.OnRuns.AloneLemmas.{IsDeedOf, new_run_alone, only_own}
use Rattle.giop_session.proofs.OnRuns.DrivenLemmas.{taken_takes}
use Rattle.giop_session.proofs.OnRuns.PlannedLemmas.{sent_once}

answered_once : (interface : Interface) (question : Option (Option Request)) (reply : Reply) (form : Form) (one other : Planned ServerEvent)
    → IsAnswer interface question reply form one → IsAnswer interface question reply form other → one ≡ other
answered_once interface None reply form one other is also = is ∙ sym also
answered_once interface (Some question) reply form one other is also =
    sent_once reply.version message.Reply form (reply_octets interface question reply form.order) (event.Answer reply) one other is.sent also.sent

located_once : (id : ℕ) (here : Bool) (order : Order) (version : Option Version) (one other : Planned ServerEvent)
    → IsLocateAnswer id here order version one → IsLocateAnswer id here order version other → one ≡ other
located_once id here order None one other is also = is ∙ sym also
located_once id here order (Some version) one other is also = is.1 ∙ sym also.1

once : (interface : Interface) (limits : Limits) (h : Held ServerRule ServerEntry) (given : ServerInput)
    → IsPlannedOnce (server_deed interface limits h given)
once interface limits h (input.Feed octets) = tt
once interface limits h (input.Answer reply form) =
    λ one other is also. answered_once interface (question_of (server_entry h reply.id)) reply form.form one other is also
once interface limits h (input.AnswerLocate id here order) =
    λ one other is also. located_once id here order (locate_of here (server_entry h id)) one other is also
once interface limits h (input.Send id) = λ one other is also. is ∙ sym also
once interface limits h (input.Take id) = tt
once interface limits h input.Close = tt

is_deed : (interface : Interface) (limits : Limits) (h : Held ServerRule ServerEntry) (given : ServerInput)
    → IsDeedOf (at_server.fed given) (at_server.named given) (server_deed interface limits h given)
is_deed interface limits h (input.Feed octets) = (refl, refl)
is_deed interface limits h (input.Answer reply form) = (refl, refl)
is_deed interface limits h (input.AnswerLocate id here order) = (refl, refl)
is_deed interface limits h (input.Send id) = (refl, refl)
is_deed interface limits h (input.Take id) = (refl, refl)
is_deed interface limits h input.Close = (refl, refl)

-- an end that holds the same of an id has the same entry for it
same_entry : (h k : Held ServerRule ServerEntry) (id named : ℕ) → named ≡ id → at h id ≡ at k id → server_entry h named ≡ server_entry k named
same_entry h k id named is same = subst (λ q. server_entry h q ≡ server_entry k q) (sym is) (ap (λ call. entry_of call.slot) same)

same_deed : (interface : Interface) (limits : Limits) (h k : Held ServerRule ServerEntry) (given : ServerInput) (id : ℕ)
    → server_named given ≡ Some id → at h id ≡ at k id → server_deed interface limits h given ≡ server_deed interface limits k given
same_deed interface limits h k (input.Feed octets) id name same = refl
same_deed interface limits h k (input.Answer reply form) id name same =
    let is : reply.id ≡ id = cc in
    ap (λ entry. PutsOut reply.id (answer_fault interface limits (question_of entry) reply form.form) (IsAnswer interface (question_of entry) reply form.form))
    (same_entry h k id reply.id is same)
same_deed interface limits h k (input.AnswerLocate named here order) id name same =
    let is : named ≡ id = cc in
    ap (λ entry. PutsOut named None (IsLocateAnswer named here order (locate_of here entry))) (same_entry h k id named is same)
same_deed interface limits h k (input.Send named) id name same = refl
same_deed interface limits h k (input.Take named) id name same = refl
same_deed interface limits h k input.Close id name same = refl

pub server_fits : (interface : Interface) (limits : Limits) (inputs : List ServerInput) (answers : List (Answered ServerEntry))
    (t : EndState (Held ServerRule ServerEntry)) (fits : ServerFits interface limits inputs) → ServerRuns interface limits inputs answers t
    → NoneRefused answers × (t.fault ≡ None) × ((id : ℕ) → ServerIsAsAlone fits answers t.calls id)
server_fits interface limits inputs answers t fits run =
    let found = new_run_alone (server_side interface) limits.message
    (server_deed interface limits) at_server (λ h octets. refl) (same_deed interface limits) (is_deed interface limits) (λ octets. refl)
    (once interface limits) (record {}) limits t inputs answers fits.met fits.rest (λ q. (fits.alone q).answers) (λ q. (fits.alone q).end) refl fits.are
    fits.of_calls (server_run_free interface limits inputs answers t fits.within run) (λ q. ((fits.alone q).runs, (fits.alone q).none_refused)) run in
    (found.0, found.1, λ id. record { call = (found.2 id).0; told = (found.2 id).1 })

-- so each id has what was said of its call
pub server_said : (interface : Interface) (limits : Limits) (inputs : List ServerInput) (answers : List (Answered ServerEntry))
    (t : EndState (Held ServerRule ServerEntry)) (fits : ServerFits interface limits inputs) (calls : ℕ → List ServerItem)
    → ((id : ℕ) → ServerSays (fits.alone id) (calls id)) → ServerRuns interface limits inputs answers t
    → (id : ℕ) → ServerIsAsSaid interface calls inputs answers t.calls id
server_said interface limits inputs answers t fits calls says run id =
    let alone = fits.alone id in
    let given = given_alone at_server id fits.met in
    let as_alone = (server_fits interface limits inputs answers t fits run).2 id in
    let held = says id in
    let takes = taken_takes (server_side interface)
    (server_deed interface limits) (nothing_unread limits.message) alone.end.unread (no_calls (record {}) limits) alone.end.calls given alone.answers
    held.acts held.taken in
    record {
      entry =
          ap (λ call. entry_of call.slot) as_alone.call
          ∙ server_entries interface limits held.acts alone.end.unread alone.end.calls (only id (calls id)) takes held.holds id
          ∙ ap (behind_all (server_telling interface) None) (only_own id (calls id));
      told =
          as_alone.told
          ∙ server_answers interface limits given alone.answers alone.end.unread alone.end.calls (only id (calls id)) held id
          ∙ ap (item_answers (server_telling interface) (λ entry. entry) None) (only_own id (calls id));
    }
