use Rattle.std.proofs.Common.{refl, arith, ℕ, ◌==◌, Bool, true, false, ◌≡◌, List, [], ◌∷◌, if◌then◌else◌}
use Rattle.std.proofs.lemmas.Bool.Decides.{nat_tests}
use Rattle.giop_cdr.specs.declared.order.Order.TheVariants.{Big, Little}
use Rattle.giop_ids.specs.Runs.{own}
use Rattle.giop_frag.specs.Runs.{Adds, Begins, Happening, IsDiscarded}
use Rattle.laws_in_use.specs.Gathering.{in_turn, none, one_by_one}
use Rattle.laws_in_use.proofs.GatheringRuns.{total_none}
use Rattle.laws_in_use.proofs.gathering.pieces_in_another_order.Goals as goal

-- those of an id, where it is 7, or 9
abbrev if_is : Bool → Happening → List Happening → List Happening
if_is is what rest = if is then what ∷ rest else rest

abbrev in_turn_by : Bool → Bool → List Happening
in_turn_by seven nine =
    if_is seven (Begins Big (1 ∷ 2 ∷ 3 ∷ [])) (if_is nine (Begins Little (4 ∷ []))
    (if_is seven (Adds Big (5 ∷ 6 ∷ [])) (if_is nine IsDiscarded [])))

abbrev one_by_one_by : Bool → Bool → List Happening
one_by_one_by seven nine =
    if_is nine (Begins Little (4 ∷ [])) (if_is nine IsDiscarded
    (if_is seven (Begins Big (1 ∷ 2 ∷ 3 ∷ [])) (if_is seven (Adds Big (5 ∷ 6 ∷ [])) [])))

same_by : (seven nine : Bool) → (seven ≡ true → nine ≡ true → ⊥) → in_turn_by seven nine ≡ one_by_one_by seven nine
same_by true true not_both = absurd (not_both refl refl)
same_by true false not_both = refl
same_by false true not_both = refl
same_by false false not_both = refl

-- no id is both
apart : (id : ℕ) → (7 == id) ≡ true → (9 == id) ≡ true → ⊥
apart id seven nine = grind (arith, nat_tests)

same : (id : ℕ) → own id in_turn ≡ own id one_by_one
same id = same_by (7 == id) (9 == id) (apart id)

pub returns-clause-same : goal.returns-clause-same
returns-clause-same c = λ n k answers others run run' free free'.
    c.any_interleaving.ensures.value 8 none n k in_turn one_by_one answers others run run' free free' same

pub returns-clause-told : goal.returns-clause-told
returns-clause-told c = λ n k answers others run run' free free'.
    c.any_interleaving.ensures.told 8 none n k in_turn one_by_one answers others run run' free free' same 7

pub returns-clause-within : goal.returns-clause-within
returns-clause-within c = λ n answers run. c.limits_in_any_order.ensures 8 none n one_by_one answers run (omega (arith, total_none))
