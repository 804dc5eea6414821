use Rattle.std.proofs.Common.{refl}
use Rattle.std.specs.Str.{chars}
use Rattle.giop_words.proofs.laws.keys_are_pairs_of_digits.Goals as goal

pub returns-clause-pairs : goal.returns-clause-pairs
unfolding chars
returns-clause-pairs c = refl

pub returns-clause-odd : goal.returns-clause-odd
unfolding chars
returns-clause-odd c = refl

pub returns-clause-other : goal.returns-clause-other
unfolding chars
returns-clause-other c = refl
