use Rattle.std.proofs.Common.{ℕ, zero, suc, ◌≡◌, ◌≤◌, refl, arith}
use Rattle.giop_mux.specs.declared.refusal.Refusal.{Refusal}
use Rattle.giop_mux.specs.declared.refusal.Refusal.TheVariants.{Rule, TooManyCalls, NoMemory}
use Rattle.giop_mux.specs.Faults.{refusal_number}
use Rattle.giop_mux.proofs.laws.refusals.refusals_are_numbered.Goals as goal

each : {F : Type 0} → F → (number : ℕ) → 1 ≤ number → number ≤ 3 → (refusal : Refusal F) × (refusal_number refusal ≡ number)
each fault zero least most = absurd (omega arith)
each fault (suc zero) least most = (Rule fault, refl)
each fault (suc (suc zero)) least most = (TooManyCalls, refl)
each fault (suc (suc (suc zero))) least most = (NoMemory, refl)
each fault (suc (suc (suc (suc number)))) least most = absurd (omega arith)

pub returns-clause-each : goal.returns-clause-each
returns-clause-each g c = each
