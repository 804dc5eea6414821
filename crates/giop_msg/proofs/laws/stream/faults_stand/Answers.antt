use Rattle.giop_msg.proofs.StreamLemmas.{fault_stands}
use Rattle.giop_msg.proofs.laws.stream.faults_stand.Goals as goal

pub returns : goal.returns
returns c = fault_stands
