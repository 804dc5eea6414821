use Rattle.std.proofs.Common.{[], ◌∷◌, negsuc, refl, arith}
use Rattle.std.specs.Int.{w16, w32, w64}
use Rattle.giop_cdr.specs.declared.order.Order.TheVariants.{Big}
use Rattle.laws_in_use.proofs.CdrSpelled.{long, minus_two, took, word_big, word_little}
use Rattle.laws_in_use.proofs.cdr.numbers_behind_padding.Goals as goal

pub returns-clause-big : goal.returns-clause-big
returns-clause-big c = (c.numbers_are_spelled.ensures.unsigned w32 _).only 258 _ (took _ (9 ∷ []) word_big)

pub returns-clause-little : goal.returns-clause-little
returns-clause-little c = (c.numbers_are_spelled.ensures.unsigned w32 _).only 258 _ (took _ (9 ∷ []) word_little)

pub returns-clause-long_long : goal.returns-clause-long_long
returns-clause-long_long c = (c.numbers_are_spelled.ensures.unsigned w64 _).only 256 _ (took _ [] long)

pub returns-clause-negative : goal.returns-clause-negative
returns-clause-negative c = (c.numbers_are_spelled.ensures.signed w16 _).only (negsuc 1) _ (took _ [] minus_two)

pub returns-clause-short : goal.returns-clause-short
returns-clause-short c = (c.numbers_are_spelled.ensures.unsigned w32 _).refuses _ (omega arith, refl)

pub returns-clause-alone : goal.returns-clause-alone
returns-clause-alone c = λ n octets rest spells is.
    (c.numbers_are_spelled.ensures.alone w32 Big 2 n 258 octets (7 ∷ 7 ∷ 0 ∷ 0 ∷ 1 ∷ 2 ∷ []) rest (9 ∷ []) spells word_big is).0
