use Rattle.giop_types.proofs.Values.LeavesLemmas.{shape_within}
use Rattle.giop_types.proofs.laws.values.values_are_bounded.Goals as goal

pub returns : goal.returns
returns c = shape_within
