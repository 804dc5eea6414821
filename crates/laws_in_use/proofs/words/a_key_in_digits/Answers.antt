use Rattle.std.proofs.Common.{ap, ◌∙◌}
use Rattle.giop_words.specs.Key.{is_hexadecimal}
use Rattle.laws_in_use.proofs.words.a_key_in_digits.Goals as goal

pub returns-clause-pairs : goal.returns-clause-pairs
returns-clause-pairs c = λ word is. ap is_hexadecimal is ∙ c.keys_are_pairs_of_digits.ensures.pairs

pub returns-clause-odd : goal.returns-clause-odd
returns-clause-odd c = λ word is. ap is_hexadecimal is ∙ c.keys_are_pairs_of_digits.ensures.odd

pub returns-clause-other : goal.returns-clause-other
returns-clause-other c = λ word is. ap is_hexadecimal is ∙ c.keys_are_pairs_of_digits.ensures.other
