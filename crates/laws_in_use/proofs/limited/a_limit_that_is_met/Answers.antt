use Rattle.std.proofs.Common.{◌≡◌, ◌==◌, ◌||◌, ℕ, Bool, true, false, [], ◌∷◌, refl, sym, ◌∙◌, inr, arith}
use Rattle.std.proofs.lemmas.Bool.Decides.{nat_tests}
use Rattle.std.proofs.lemmas.List.Sorted.{IsPermutation-refl}
use Rattle.std.specs.List.{list_any}
use Rattle.giop_cdr.specs.Layout.{number, chosen}
use Rattle.giop_cdr.specs.Reading.Values.{field_at, number_at}
use Rattle.giop_ids.specs.ById.{is_listed}
use Rattle.giop_msg.specs.RequestId.{request_id_layout}
use Rattle.giop_session.specs.Runs.Events.{Comes}
use Rattle.giop_session.specs.Runs.Limits.{begins_at_server, is_asking, opens}
use Rattle.giop_session.specs.declared.SessionFault.TheVariants.{TooManyCalls}
use Rattle.laws_in_use.specs.Limited.{all, asked, one_call, two_calls}
use Rattle.laws_in_use.specs.Locating.{door_begins, door_whole, key_little, limits}
use Rattle.laws_in_use.proofs.LocatingRuns.{begun, one_1}
use Rattle.laws_in_use.proofs.limited.a_limit_that_is_met.Goals as goal

-- whoever opens a call does so under 7 or 9
opened : (id : ℕ) → list_any (λ e. opens is_asking begins_at_server e id) all ≡ ((id == 7) || ((id == 9) || (false || (false || false))))
unfolding request_id_layout chosen number number_at field_at
opened id = refl

listed : (id : ℕ) (seven nine : Bool) → (id == 7) ≡ seven → (id == 9) ≡ nine → (seven || (nine || (false || (false || false)))) ≡ true
    → is_listed (7 ∷ 9 ∷ []) id ≡ true
listed id true nine is_seven is_nine is = grind (arith, nat_tests)
listed id false true is_seven is_nine is = grind (arith, nat_tests)
listed id false false is_seven is_nine is = absurd cc

pub returns-clause-within : goal.returns-clause-within
returns-clause-within c = record {
  calls = record { ids = 7 ∷ 9 ∷ []; few = omega arith; listed = λ id is. listed id (id == 7) (id == 9) refl refl (sym (opened id) ∙ is) };
  octets = omega arith;
}

pub returns-clause-next : goal.returns-clause-next
returns-clause-next c = (Comes _ ∷ Comes _ ∷ [], IsPermutation-refl _)

pub returns-clause-came : goal.returns-clause-came
returns-clause-came c = λ interface. (one_1 interface, (one_1 interface, begun interface, refl))

pub returns-clause-refused : goal.returns-clause-refused
returns-clause-refused c = λ interface. (_, inr (refl, refl))

pub returns-clause-none : goal.returns-clause-none
returns-clause-none c = λ interface h why came refused.
    c.limits_in_any_order_at_server.ensures.order interface limits all (returns-clause-within c)
    (Comes door_begins ∷ []) (Comes key_little) h why (returns-clause-next c) came refused

pub returns-clause-met : goal.returns-clause-met
returns-clause-met c = λ interface h came refused within.
    (c.limits_in_any_order_at_server.ensures.order interface one_call two_calls within (Comes key_little ∷ []) (Comes door_whole) h TooManyCalls
    ([], IsPermutation-refl _) came refused).0 refl

pub returns-clause-few : goal.returns-clause-few
returns-clause-few c = c.limits_in_any_order_at_server.ensures.few limits (Comes key_little ∷ []) (omega arith) (omega arith)

pub returns-clause-at_client : goal.returns-clause-at_client
returns-clause-at_client c = c.limits_in_any_order_at_client.ensures.few limits asked (omega arith) (omega arith)
