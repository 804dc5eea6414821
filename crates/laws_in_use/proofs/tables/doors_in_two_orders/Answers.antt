use Rattle.std.proofs.Common.{◌≡◌, ◌==◌, ◌||◌, Bool, true, false, [], ◌∷◌, refl, arith}
use Rattle.giop_ids.proofs.Lengths.{HasOnly-empty}
use Rattle.laws_in_use.specs.Doors.{doors, takes_at_once, takes_in_turn}
use Rattle.laws_in_use.proofs.DoorRuns.{same_takes}
use Rattle.laws_in_use.proofs.tables.doors_in_two_orders.Goals as goal

pub returns-clause-same : goal.returns-clause-same
returns-clause-same c = λ n k answers others run run' free free'.
    c.any_interleaving.ensures.value 2 doors n k takes_in_turn takes_at_once answers others run run' free free' same_takes

pub returns-clause-told : goal.returns-clause-told
returns-clause-told c = λ n k answers others run run' free free'.
    c.any_interleaving.ensures.told 2 doors n k takes_in_turn takes_at_once answers others run run' free free' same_takes 7

pub returns-clause-none : goal.returns-clause-none
returns-clause-none c = HasOnly-empty _ (7 ∷ 9 ∷ [])

-- of the ids in turn no other is one
only : (seven nine : Bool) → (seven || (nine || (seven || (nine || false)))) ≡ true → (seven || (nine || false)) ≡ true
only true nine is = refl
only false true is = refl
only false false is = is

pub returns-clause-ids : goal.returns-clause-ids
returns-clause-ids c = λ id listed. only (7 == id) (9 == id) listed

pub returns-clause-within : goal.returns-clause-within
returns-clause-within c = λ n answers run.
    c.limits_in_any_order.ensures 2 doors n takes_in_turn answers (7 ∷ 9 ∷ []) (returns-clause-none c) (returns-clause-ids c) (omega arith) run
