use Rattle.std.proofs.Common.{◌≡◌, codes, Result, Err, refl, sym, ◌∙◌}
use Rattle.giop_ior.specs.CorbalocReading.{address_at, corbaloc_of, key_at}
use Rattle.giop_ior.specs.declared.addresses.corbaloc.Corbaloc.{Corbaloc}
use Rattle.giop_ior.specs.declared.addresses.corbaloc_fault.CorbalocFault.{CorbalocFault}
use Rattle.laws_in_use.proofs.referred.the_fault_of_a_text.Goals as goal

pub returns-clause-told : goal.returns-clause-told
unfolding corbaloc_of address_at key_at
returns-clause-told c = refl

pub returns-clause-refused : goal.returns-clause-refused
returns-clause-refused c = c.corbalocs_are_refused.ensures.refused (codes "corbaloc::h/^") _ (returns-clause-told c)

same : {d e : CorbalocFault} → ◌≡◌ {A = Result Corbaloc CorbalocFault} (Err d) (Err e) → d ≡ e
same is = cc

pub returns-clause-alone : goal.returns-clause-alone
returns-clause-alone c = λ e why. same (sym (c.corbalocs_are_refused.ensures.refuses (codes "corbaloc::h/^") e why) ∙ returns-clause-told c)
