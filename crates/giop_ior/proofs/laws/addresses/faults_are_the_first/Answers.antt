use Rattle.giop_ior.proofs.FirstFaultLemmas.{first_fault}
use Rattle.giop_ior.proofs.laws.addresses.faults_are_the_first.Goals as goal

pub returns : goal.returns
returns c = first_fault
