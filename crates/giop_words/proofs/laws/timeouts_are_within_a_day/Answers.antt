use Rattle.std.proofs.Common.{◌≤◌, arith}
use Rattle.giop_words.proofs.laws.timeouts_are_within_a_day.Goals as goal

pub returns-clause-zero : goal.returns-clause-zero
returns-clause-zero c = λ is. let above : 1 ≤ 0 = is.0 in absurd (omega (arith, above))

pub returns-clause-more : goal.returns-clause-more
returns-clause-more c = λ is. let below : 86401 ≤ 86400 = is.1 in absurd (omega (arith, below))
