use Rattle.std.proofs.Common.{ℕ, zero, suc, ◌≡◌, ◌≤◌, refl, arith}
use Rattle.giop_ior.specs.declared.addresses.corbaloc_fault.CorbalocKind.{CorbalocKind}
use Rattle.giop_ior.specs.declared.addresses.corbaloc_fault.CorbalocKind.TheVariants.{BadPrefix, BadProtocol, BadHost, BadPort, BadVersion, BadEscape, BadChar, NoMemory}
use Rattle.giop_ior.specs.CorbalocFault.{corbaloc_kind_number}
use Rattle.giop_ior.proofs.laws.addresses.kinds_are_numbered.Goals as goal

each : (number : ℕ) → 1 ≤ number → number ≤ 8 → (kind : CorbalocKind) × (corbaloc_kind_number kind ≡ number)
each zero least most = absurd (omega arith)
each (suc zero) least most = (BadPrefix, refl)
each (suc (suc zero)) least most = (BadProtocol, refl)
each (suc (suc (suc zero))) least most = (BadHost, refl)
each (suc (suc (suc (suc zero)))) least most = (BadPort, refl)
each (suc (suc (suc (suc (suc zero))))) least most = (BadVersion, refl)
each (suc (suc (suc (suc (suc (suc zero)))))) least most = (BadEscape, refl)
each (suc (suc (suc (suc (suc (suc (suc zero))))))) least most = (BadChar, refl)
each (suc (suc (suc (suc (suc (suc (suc (suc zero)))))))) least most = (NoMemory, refl)
each (suc (suc (suc (suc (suc (suc (suc (suc (suc number))))))))) least most = absurd (omega arith)

pub returns-clause-each : goal.returns-clause-each
returns-clause-each c = each
