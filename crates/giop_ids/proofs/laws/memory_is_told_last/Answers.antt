use Rattle.std.proofs.Common.{◌≡◌, Some, None, ◌⊎◌, inl, inr}
use Rattle.giop_ids.specs.Runs.{RefusedAs}
use Rattle.giop_ids.proofs.laws.memory_is_told_last.Goals as goal

told_found : {Why : Type 0} (memory why found : Why) → RefusedAs memory why (Some found) → why ≡ found
told_found memory why found (inl is) = cc
told_found memory why found (inr wanting) = let wrong = wanting.1 in absurd cc

told_memory : {Why : Type 0} (memory why : Why) → RefusedAs memory why None → why ≡ memory
told_memory memory why (inl is) = absurd cc
told_memory memory why (inr wanting) = wanting.0

pub returns-clause-found : goal.returns-clause-found
returns-clause-found g c = told_found

pub returns-clause-none : goal.returns-clause-none
returns-clause-none g c = told_memory
