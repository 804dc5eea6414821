use Rattle.giop_ids.proofs.Lengths.{HasOnly-empty}
use Rattle.giop_ids.proofs.RunLemmas.{accepted_free}
use Rattle.giop_ids.proofs.laws.premises_are_met.Goals as goal

pub returns-clause-accepted : goal.returns-clause-accepted
returns-clause-accepted g c = accepted_free

pub returns-clause-empty : goal.returns-clause-empty
returns-clause-empty g c = HasOnly-empty _

pub returns-clause-listed : goal.returns-clause-listed
returns-clause-listed g c = λ acts id listed. listed
