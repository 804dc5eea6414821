use Rattle.giop_ids.proofs.Sums.{sum_put, sum_empty}
use Rattle.giop_ids.proofs.laws.sums_change_by_one.Goals as goal

pub returns-clause-value : goal.returns-clause-value
returns-clause-value g c = λ weight m id held. sum_put weight m id held

pub returns-clause-none : goal.returns-clause-none
returns-clause-none g c = λ weight. sum_empty weight
