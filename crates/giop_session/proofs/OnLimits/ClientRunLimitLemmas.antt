-- A run of a client's end whose inputs are within its limits meets none.
use Rattle.std.proofs.Common.{◌≡◌, ℕ, true, false, List, [], ◌∷◌, Option, Some, None, refl, sym, ap, ◌∙◌}
use Rattle.std.specs.List.{list_any}
use Rattle.giop_ids.proofs.Puts.{eq_itself}
use Rattle.giop_types.specs.declared.interfaces.interface.Interface.{Interface}
use Rattle.giop_cdr.specs.declared.order.Order.{Order}
use Rattle.giop_msg.specs.declared.msg.Msg.{Msg}
use Rattle.giop_msg.specs.declared.version.Version.{Version}
use Rattle.giop_calls.specs.declared.client.entry.ClientEntry.{ClientEntry}
use Rattle.giop_calls.specs.declared.client.event.ClientEvent.{ClientEvent}
use Rattle.giop_calls.specs.declared.client.rule.ClientRule.{ClientRule}
use Rattle.giop_session.specs.declared.laws.inputs.Answered.{Answered}
use Rattle.giop_session.specs.declared.laws.inputs.ClientInput.{ClientInput}
use Rattle.giop_session.specs.declared.laws.inputs.ClientInput.TheVariants as input
use Rattle.giop_end.specs.declared.limits.Limits.{Limits}
use Rattle.giop_table.specs.declared.plan.Planned.{Planned}
use Rattle.giop_table.specs.CallTable.{Held, entry_at}
use Rattle.giop_end.specs.Acts.ClientCalls.{IsCancel, open_version}
use Rattle.giop_end.specs.Hearing.ClientHears.{client_side}
use Rattle.giop_session.specs.Runs.ClientRuns.{client_deed, client_run}
use Rattle.giop_session.specs.Runs.SideRuns.{SideRuns}
use Rattle.giop_end.specs.Ends.Begun.{EndState}
use Rattle.giop_session.specs.Runs.Limits.{begins_at_client}
use Rattle.giop_session.specs.Runs.RunLimits.{ClientIsGivenWithin, NoneForALimit, calls_under, fed_to_client}
use Rattle.giop_session.proofs.OnLimits.ClientLimitLemmas.{begins_only, broken, own, small}
use Rattle.giop_session.proofs.OnLimits.RunLimitLemmas.{Suits, new_run_free}

-- a call begins by no cancel, and by no further piece
begins_none : (e : ClientEvent) (planned : Planned ClientEvent) → planned.event ≡ e → begins_at_client e ≡ false
    → begins_at_client planned.event ≡ true → false ≡ true
begins_none e planned same none is = sym none ∙ sym (ap begins_at_client same) ∙ is

cancelled_none : (id : ℕ) (order : Order) (version : Option Version) (planned : Planned ClientEvent) → IsCancel id order version planned
    → begins_at_client planned.event ≡ true → false ≡ true
cancelled_none id order None planned plans = absurd plans
cancelled_none id order (Some version) planned (small, same) = begins_none _ planned (ap (λ p. p.event) same) refl

suits : (interface : Interface) (limits : Limits) (h : Held ClientRule ClientEntry) (given : ClientInput)
    → Suits fed_to_client calls_under begins_at_client given (client_deed interface limits h given)
suits interface limits h (input.Feed octets) = refl
suits interface limits h (input.Call request form) = (refl, λ planned plans begins_so. eq_itself request.head.id)
suits interface limits h (input.Locate request form) = (refl, λ planned plans begins_so. eq_itself request.id)
suits interface limits h (input.Cancel id order) = (refl, cancelled_none id order (open_version (entry_at h id)))
suits interface limits h (input.Send id) = (refl, λ planned same. begins_none _ planned (ap (λ p. p.event) same) refl)
suits interface limits h (input.Take id) = refl
suits interface limits h input.Close = refl

nothing_asked : (messages : List Msg) → list_any (λ m. false) messages ≡ true → false ≡ true
nothing_asked [] is = is
nothing_asked (m ∷ messages) is = nothing_asked messages is

pub client_run_free : (interface : Interface) (limits : Limits) (inputs : List ClientInput) (answers : List (Answered ClientEntry))
    (t : EndState (Held ClientRule ClientEntry)) → ClientIsGivenWithin limits inputs → SideRuns (client_run interface) limits inputs answers t
    → NoneForALimit answers
client_run_free interface limits inputs answers t given run =
    new_run_free (client_side interface) (λ kind. false) begins_at_client
    (λ rule v. begins_only v) (small interface) own broken fed_to_client calls_under (client_deed interface limits) (suits interface limits)
    (record {}) limits t inputs answers given.calls.ids given.messages given.rest given.stand given.calls.few
    (λ id is. let wrong = nothing_asked given.messages is in absurd cc) given.calls.listed given.octets run
