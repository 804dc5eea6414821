use Rattle.giop_cdr.proofs.Encapsulation.EncapsulationLemmas.{closed_is_octets, encapsulation_exact, encapsulation_back}
use Rattle.giop_cdr.proofs.laws.primitives.encapsulations_are_opened_again.Goals as goal

pub returns-clause-written : goal.returns-clause-written
returns-clause-written c = closed_is_octets

pub returns-clause-exact : goal.returns-clause-exact
returns-clause-exact c = encapsulation_exact

pub returns-clause-back : goal.returns-clause-back
returns-clause-back c = encapsulation_back
