use Rattle.std.proofs.Common.{arith}
use Rattle.giop_ior.specs.declared.addresses.corbaloc_fault.CorbalocKind.TheVariants.{BadPort}
use Rattle.laws_in_use.proofs.numbers.numbers_of_corbalocs.Goals as goal

pub returns-clause-fourth : goal.returns-clause-fourth
returns-clause-fourth c = λ fault is. c.kinds_are_numbered.ensures.once fault BadPort is

pub returns-clause-no_ninth : goal.returns-clause-no_ninth
returns-clause-no_ninth c = λ fault is. let within = c.kinds_are_numbered.ensures.within fault in absurd (omega arith)

pub returns-clause-eighth : goal.returns-clause-eighth
returns-clause-eighth c = c.kinds_are_numbered.ensures.each 8 (omega arith) (omega arith)
