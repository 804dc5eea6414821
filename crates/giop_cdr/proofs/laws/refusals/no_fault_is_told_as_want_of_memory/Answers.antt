use Rattle.std.proofs.Common.{◌≡◌, ◌∙◌, ◌⊎◌, inl, inr, List, ℕ, Err, IsOk, sym, subst}
use Rattle.giop_cdr.specs.Reading.Values.{Reading}
use Rattle.giop_cdr.specs.declared.fault.CdrFault.{CdrFault}
use Rattle.giop_cdr.specs.declared.fault.CdrKind.TheVariants.{NoMemory}
use Rattle.giop_cdr.proofs.laws.refusals.no_fault_is_told_as_want_of_memory.Goals as goal

one_fault : (reading : Reading (List ℕ)) (e fault : CdrFault)
    → (reading ≡ Err e) ⊎ ((e.kind ≡ NoMemory) × IsOk reading) → reading ≡ Err fault → e ≡ fault
one_fault reading e fault (inl told) is = let same : ◌≡◌ {A = Reading (List ℕ)} (Err e) (Err fault) = sym told ∙ is in cc
one_fault reading e fault (inr (want, fine)) is = let wrong = subst IsOk is fine in absurd cc

pub returns : goal.returns
returns c = λ read old new e fault (told, stays) is. one_fault (read old) e fault told is
