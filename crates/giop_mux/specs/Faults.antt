-- Refusals: for the proof of a rule's law `fault_keeps`, their numbers, and their texts.
use Rattle.std.specs.Prelude.{◌≡◌, true, false, ℕ, List, codes, Option, Some}
use Rattle.giop_mux.specs.declared.refusal.Refusal.{Refusal}
use Rattle.giop_mux.specs.declared.refusal.Refusal.TheVariants.{Rule, TooManyCalls, NoMemory}

-- an accepted step has no fault: `IsErr (Ok answer)` computes to this premise
pub no_fault : {P : Type 0} → false ≡ true → P
no_fault fault = absurd cc

-- the number of a refusal, in the order in which refusals are judged
abbrev pub refusal_number : {F : Type 0} → Refusal F → ℕ
refusal_number (Rule _) = 1
refusal_number TooManyCalls = 2
refusal_number NoMemory = 3

-- a refusal as a person reads it, where the rule's faults have these texts: its fault, or its name
abbrev pub refusal_text : {F : Type 0} → (F → Option (List ℕ)) → Refusal F → Option (List ℕ)
refusal_text told (Rule fault) = told fault
refusal_text told TooManyCalls = Some (codes "TooManyCalls")
refusal_text told NoMemory = Some (codes "NoMemory")
