-- What fits a client's end is refused nothing by it.
use Rattle.std.proofs.Common.{◌≡◌, ℕ, List, Option, Some, None, refl, sym, ap, subst, ◌∙◌}
use Rattle.giop_types.specs.declared.json.interface.Interface.{Interface}
use Rattle.giop_cdr.specs.declared.order.Order.{Order}
use Rattle.giop_msg.specs.declared.kind.Kind.TheVariants as message
use Rattle.giop_msg.specs.declared.version.Version.{Version}
use Rattle.giop_calls.specs.declared.client.call.Call.TheVariants as asked
use Rattle.giop_calls.specs.declared.client.entry.ClientEntry.{ClientEntry}
use Rattle.giop_calls.specs.declared.client.event.ClientEvent.{ClientEvent}
use Rattle.giop_calls.specs.declared.client.event.ClientEvent.TheVariants as event
use Rattle.giop_calls.specs.declared.client.rule.ClientRule.{ClientRule}
use Rattle.giop_session.specs.declared.laws.inputs.Answered.{Answered}
use Rattle.giop_session.specs.declared.laws.inputs.ClientInput.{ClientInput}
use Rattle.giop_session.specs.declared.laws.inputs.ClientInput.TheVariants as input
use Rattle.giop_session.specs.declared.limits.Limits.{Limits}
use Rattle.giop_session.specs.declared.calls.plan.Planned.{Planned}
use Rattle.giop_session.specs.Acts.ClientCalls.{IsCall, IsCancel, IsLocate, call_fault, cancel_fault, locate_fault, locate_octets, open_version, request_octets}
use Rattle.giop_session.specs.Calls.Begun.{no_calls}
use Rattle.giop_session.specs.Calls.CallTable.{Held, at}
use Rattle.giop_session.specs.Calls.Sending.{entry_of}
use Rattle.giop_session.specs.Hearing.ClientHears.{client_side}
use Rattle.giop_session.specs.Items.Carries.{behind_all}
use Rattle.giop_session.specs.Items.ClientCarries.{ClientItem, client_telling, unknown}
use Rattle.giop_session.specs.Runs.ClientRuns.{ClientRuns, client_deed, client_entry, client_named}
use Rattle.giop_session.specs.Runs.Driven.{EndState, NoneRefused, PutsOut, item_answers}
use Rattle.giop_session.specs.Runs.Fits.{ClientFits, ClientIsAsAlone, ClientIsAsSaid, ClientSays, at_client, only}
use Rattle.giop_session.specs.Runs.Inputs.{nothing_unread}
use Rattle.giop_session.specs.Runs.Met.{given_alone}
use Rattle.giop_session.proofs.OnItems.ClientHeadline.{client_answers, client_entries}
use Rattle.giop_session.proofs.OnLimits.ClientRunLimitLemmas.{client_run_free}
use Rattle.giop_session.proofs.OnRuns.AheadLemmas.{IsPlannedOnce}
use Rattle.giop_session.proofs.OnRuns.AloneLemmas.{IsDeedOf, new_run_alone, only_own}
use Rattle.giop_session.proofs.OnRuns.DrivenLemmas.{taken_takes}
use Rattle.giop_session.proofs.OnRuns.PlannedLemmas.{sent_once}

cancelled_once : (id : ℕ) (order : Order) (version : Option Version) (one other : Planned ClientEvent)
    → IsCancel id order version one → IsCancel id order version other → one ≡ other
cancelled_once id order None one other is also = absurd is
cancelled_once id order (Some version) one other is also = is.1 ∙ sym also.1

once : (interface : Interface) (limits : Limits) (h : Held ClientRule ClientEntry) (given : ClientInput)
    → IsPlannedOnce (client_deed interface limits h given)
once interface limits h (input.Feed octets) = tt
once interface limits h (input.Call request form) =
    λ one other is also. sent_once request.head.version message.Request form.form (request_octets interface request form.form.order)
    (event.Call (asked.Request request)) one other is.sent also.sent
once interface limits h (input.Locate request form) =
    λ one other is also. sent_once request.version message.LocateRequest form.form (locate_octets request form.form.order)
    (event.Call (asked.Locate request)) one other is.sent also.sent
once interface limits h (input.Cancel id order) = λ one other is also. cancelled_once id order (open_version (client_entry h id)) one other is also
once interface limits h (input.Send id) = λ one other is also. is ∙ sym also
once interface limits h (input.Take id) = tt
once interface limits h input.Close = tt

is_deed : (interface : Interface) (limits : Limits) (h : Held ClientRule ClientEntry) (given : ClientInput)
    → IsDeedOf (at_client.fed given) (at_client.named given) (client_deed interface limits h given)
is_deed interface limits h (input.Feed octets) = (refl, refl)
is_deed interface limits h (input.Call request form) = (refl, refl)
is_deed interface limits h (input.Locate request form) = (refl, refl)
is_deed interface limits h (input.Cancel id order) = (refl, refl)
is_deed interface limits h (input.Send id) = (refl, refl)
is_deed interface limits h (input.Take id) = (refl, refl)
is_deed interface limits h input.Close = (refl, refl)

-- an end that holds the same of an id has the same entry for it
same_entry : (h k : Held ClientRule ClientEntry) (id named : ℕ) → named ≡ id → at h id ≡ at k id → client_entry h named ≡ client_entry k named
same_entry h k id named is same = subst (λ q. client_entry h q ≡ client_entry k q) (sym is) (ap (λ call. entry_of call.slot) same)

same_deed : (interface : Interface) (limits : Limits) (h k : Held ClientRule ClientEntry) (given : ClientInput) (id : ℕ)
    → client_named given ≡ Some id → at h id ≡ at k id → client_deed interface limits h given ≡ client_deed interface limits k given
same_deed interface limits h k (input.Feed octets) id name same = refl
same_deed interface limits h k (input.Call request form) id name same =
    let is : request.head.id ≡ id = cc in
    ap (λ entry. PutsOut request.head.id (call_fault interface limits entry request form.form) (IsCall interface request form.form))
    (same_entry h k id request.head.id is same)
same_deed interface limits h k (input.Locate request form) id name same =
    let is : request.id ≡ id = cc in
    ap (λ entry. PutsOut request.id (locate_fault limits entry request form.form) (IsLocate request form.form)) (same_entry h k id request.id is same)
same_deed interface limits h k (input.Cancel named order) id name same =
    let is : named ≡ id = cc in
    ap (λ entry. PutsOut named (cancel_fault (open_version entry)) (IsCancel named order (open_version entry))) (same_entry h k id named is same)
same_deed interface limits h k (input.Send named) id name same = refl
same_deed interface limits h k (input.Take named) id name same = refl
same_deed interface limits h k input.Close id name same = refl

pub client_fits : (interface : Interface) (limits : Limits) (inputs : List ClientInput) (answers : List (Answered ClientEntry))
    (t : EndState (Held ClientRule ClientEntry)) (fits : ClientFits interface limits inputs) → ClientRuns interface limits inputs answers t
    → NoneRefused answers × (t.fault ≡ None) × ((id : ℕ) → ClientIsAsAlone fits answers t.calls id)
client_fits interface limits inputs answers t fits run =
    let found = new_run_alone (client_side interface) limits.message
    (client_deed interface limits) at_client (λ h octets. refl) (same_deed interface limits) (is_deed interface limits) (λ octets. refl)
    (once interface limits) (record {}) limits t inputs answers fits.met fits.rest (λ q. (fits.alone q).answers) (λ q. (fits.alone q).end) refl fits.are
    fits.of_calls (client_run_free interface limits inputs answers t fits.within run) (λ q. ((fits.alone q).runs, (fits.alone q).none_refused)) run in
    (found.0, found.1, λ id. record { call = (found.2 id).0; told = (found.2 id).1 })

-- so each id has what was said of its call
pub client_said : (interface : Interface) (limits : Limits) (inputs : List ClientInput) (answers : List (Answered ClientEntry))
    (t : EndState (Held ClientRule ClientEntry)) (fits : ClientFits interface limits inputs) (calls : ℕ → List ClientItem)
    → ((id : ℕ) → ClientSays (fits.alone id) (calls id)) → ClientRuns interface limits inputs answers t
    → (id : ℕ) → ClientIsAsSaid interface calls inputs answers t.calls id
client_said interface limits inputs answers t fits calls says run id =
    let alone = fits.alone id in
    let given = given_alone at_client id fits.met in
    let as_alone = (client_fits interface limits inputs answers t fits run).2 id in
    let held = says id in
    let takes = taken_takes (client_side interface)
    (client_deed interface limits) (nothing_unread limits.message) alone.end.unread (no_calls (record {}) limits) alone.end.calls given alone.answers
    held.acts held.taken in
    record {
      entry =
          ap (λ call. entry_of call.slot) as_alone.call
          ∙ client_entries interface limits held.acts alone.end.unread alone.end.calls (only id (calls id)) takes held.holds id
          ∙ ap (λ items. (behind_all (client_telling interface) unknown items).entry) (only_own id (calls id));
      told =
          as_alone.told
          ∙ client_answers interface limits given alone.answers alone.end.unread alone.end.calls (only id (calls id)) held id
          ∙ ap (item_answers (client_telling interface) (λ known. known.entry) unknown) (only_own id (calls id));
    }
