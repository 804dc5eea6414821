use Rattle.std.proofs.Common.{ℕ, zero, suc, ◌≡◌, ◌≤◌, refl, arith}
use Rattle.giop_calls.specs.declared.fault.CallFault.{CallFault}
use Rattle.giop_calls.specs.declared.fault.CallFault.TheVariants.{IdInUse, Stray, OrderDiffers, UnknownReply, WrongKind, NotOpen, Unfit, UnknownOperation, NothingToSend}
use Rattle.giop_calls.specs.Faults.{fault_number}
use Rattle.giop_calls.proofs.laws.answers.faults_are_numbered.Goals as goal

each : (number : ℕ) → 1 ≤ number → number ≤ 9 → (fault : CallFault) × (fault_number fault ≡ number)
each zero least most = absurd (omega arith)
each (suc zero) least most = (IdInUse, refl)
each (suc (suc zero)) least most = (Stray, refl)
each (suc (suc (suc zero))) least most = (OrderDiffers, refl)
each (suc (suc (suc (suc zero)))) least most = (UnknownReply, refl)
each (suc (suc (suc (suc (suc zero))))) least most = (WrongKind, refl)
each (suc (suc (suc (suc (suc (suc zero)))))) least most = (NotOpen, refl)
each (suc (suc (suc (suc (suc (suc (suc zero))))))) least most = (Unfit, refl)
each (suc (suc (suc (suc (suc (suc (suc (suc zero)))))))) least most = (UnknownOperation, refl)
each (suc (suc (suc (suc (suc (suc (suc (suc (suc zero))))))))) least most = (NothingToSend, refl)
each (suc (suc (suc (suc (suc (suc (suc (suc (suc (suc number)))))))))) least most = absurd (omega arith)

pub returns-clause-each : goal.returns-clause-each
returns-clause-each c = each
