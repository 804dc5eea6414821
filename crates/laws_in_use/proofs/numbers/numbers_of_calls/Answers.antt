use Rattle.std.proofs.Common.{arith}
use Rattle.giop_calls.specs.declared.fault.CallFault.TheVariants.{WrongKind}
use Rattle.laws_in_use.proofs.numbers.numbers_of_calls.Goals as goal

pub returns-clause-fifth : goal.returns-clause-fifth
returns-clause-fifth c = λ fault is. c.faults_are_numbered.ensures.once fault WrongKind is

pub returns-clause-no_tenth : goal.returns-clause-no_tenth
returns-clause-no_tenth c = λ fault is. let within = c.faults_are_numbered.ensures.within fault in absurd (omega arith)

pub returns-clause-ninth : goal.returns-clause-ninth
returns-clause-ninth c = c.faults_are_numbered.ensures.each 9 (omega arith) (omega arith)
