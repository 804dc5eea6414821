-- What the table's verdict says of the rule's.
use Rattle.std.proofs.Common.{◌≡◌, ℕ, Option, Some, None, Result, Ok, Err, IsErr, IfOk, IfErr, OnOk, OnErr, IsErrOf, refl, sym, ap, inl}
use Rattle.std.specs.FinMap as map
use Rattle.giop_ids.specs.ById.{ById}
use Rattle.giop_ids.specs.Runs.{within, refusal_of, RefusedAs}
use Rattle.giop_mux.specs.declared.step.Step.{Step}
use Rattle.giop_mux.specs.declared.refusal.Refusal.{Refusal}
use Rattle.giop_mux.specs.declared.refusal.Refusal.TheVariants.{NoMemory}
use Rattle.giop_mux.specs.Calls.{by_rule, room_refusal, judged}

-- what the table accepts, the rule accepts with that answer
pub accepted : {A F : Type 0} (over : Option (Refusal F)) (outcome : Result A F) (answer : A)
    → within over (by_rule outcome) ≡ Ok answer → outcome ≡ Ok answer
accepted over (Err fault) answer e = cc
accepted None (Ok given) answer e = cc
accepted (Some why) (Ok given) answer e = cc

-- how a new entry is refused, where the rule accepts its event
pub refused_new : {E A F : Type 0} (m : ById E) (limit id : ℕ) (step : Step E A F) (entry : E) (answer : A) (refusal : Refusal F)
    → step.entry ≡ Some entry → step.outcome ≡ Ok answer
    → RefusedAs NoMemory refusal (room_refusal m limit id (Some entry)) → RefusedAs NoMemory refusal (refusal_of (judged m limit id step))
refused_new {A = A} {F} m limit id step entry answer refusal grows accepts is =
    rw (grows, accepts) (by_room (room_refusal m limit id (Some entry)) is)
  where
    by_room : (over : Option (Refusal F)) → RefusedAs NoMemory refusal over
        → RefusedAs NoMemory refusal (refusal_of (within {D = A} over (Ok answer)))
    by_room (Some why) is = is
    by_room None is = is

within_none : {A Why : Type 0} (r : Result A Why) → within None r ≡ r
within_none (Ok a) = refl
within_none (Err why) = refl

-- under an id that has an entry the rule decides alone
pub judged_held : {E A F : Type 0} (m : ById E) (limit id : ℕ) (step : Step E A F) (held : E)
    → map.get m id ≡ Some held → judged m limit id step ≡ by_rule step.outcome
judged_held m limit id step held found = rw found (within_none (by_rule step.outcome))

-- a result that is what was judged tells its answer, and its refusal
pub tells_answer : {A F : Type 0} (result verdict : Result A (Refusal F)) → result ≡ verdict
    → IfOk result (λ answer. verdict ≡ Ok answer)
tells_answer (Ok answer) verdict is = sym is
tells_answer (Err refusal) verdict is = tt

pub tells_refusal : {A F : Type 0} (result verdict : Result A (Refusal F)) → result ≡ verdict
    → IfErr result (λ refusal. RefusedAs NoMemory refusal (refusal_of verdict))
tells_refusal (Ok answer) verdict is = tt
tells_refusal (Err refusal) verdict is = inl (sym (ap refusal_of is))

-- where the rule decides alone, a refusal is a fault of the rule
pub from_fault : {A F P : Type 0} (result : Result A (Refusal F)) (outcome : Result A F)
    → result ≡ by_rule outcome → (IsErr outcome → P) → OnErr result P
from_fault (Ok answer) outcome is p = tt
from_fault (Err refusal) (Ok answer) is p = absurd cc
from_fault (Err refusal) (Err fault) is p = p refl

-- where the rule decides alone, memory is never wanting
pub not_memory : {A F P : Type 0} (result : Result A (Refusal F)) (outcome : Result A F)
    → result ≡ by_rule outcome → IsErrOf result NoMemory → P
not_memory result (Ok answer) is wanting = absurd cc
not_memory result (Err fault) is wanting = absurd cc

-- what holds anyway holds where the result is Ok
pub OnOk_of : {T E P : Type 0} (result : Result T E) → P → OnOk result P
OnOk_of (Ok x) p = p
OnOk_of (Err e) p = tt
