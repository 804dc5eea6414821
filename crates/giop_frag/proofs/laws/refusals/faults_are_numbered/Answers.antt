use Rattle.std.proofs.Common.{ℕ, zero, suc, ◌≡◌, ◌≤◌, refl, arith}
use Rattle.giop_frag.specs.declared.fault.GatherFault.{GatherFault}
use Rattle.giop_frag.specs.declared.fault.GatherFault.TheVariants.{Stray, OrderDiffers, GatherFull, NoMemory}
use Rattle.giop_frag.specs.Faults.{gather_fault_number}
use Rattle.giop_frag.proofs.laws.refusals.faults_are_numbered.Goals as goal

each : (number : ℕ) → 1 ≤ number → number ≤ 4 → (fault : GatherFault) × (gather_fault_number fault ≡ number)
each zero least most = absurd (omega arith)
each (suc zero) least most = (Stray, refl)
each (suc (suc zero)) least most = (OrderDiffers, refl)
each (suc (suc (suc zero))) least most = (GatherFull, refl)
each (suc (suc (suc (suc zero)))) least most = (NoMemory, refl)
each (suc (suc (suc (suc (suc number))))) least most = absurd (omega arith)

pub returns-clause-each : goal.returns-clause-each
returns-clause-each c = each
