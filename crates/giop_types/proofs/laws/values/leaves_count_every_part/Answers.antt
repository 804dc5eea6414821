use Rattle.giop_types.proofs.Coding.SpelledFits.{some_leaves}
use Rattle.giop_types.proofs.laws.values.leaves_count_every_part.Goals as goal

pub returns-clause-some : goal.returns-clause-some
returns-clause-some c = some_leaves
