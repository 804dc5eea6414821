use Rattle.std.proofs.Common.{arith}
use Rattle.giop_frag.specs.declared.fault.GatherFault.TheVariants.{GatherFull}
use Rattle.laws_in_use.proofs.limits.numbers_of_gatherers.Goals as goal

pub returns-clause-third : goal.returns-clause-third
returns-clause-third c = λ fault is. c.faults_are_numbered.ensures.once fault GatherFull is

pub returns-clause-no_fifth : goal.returns-clause-no_fifth
returns-clause-no_fifth c = λ fault is. let within = c.faults_are_numbered.ensures.within fault in absurd (omega arith)

pub returns-clause-fourth : goal.returns-clause-fourth
returns-clause-fourth c = c.faults_are_numbered.ensures.each 4 (omega arith) (omega arith)
