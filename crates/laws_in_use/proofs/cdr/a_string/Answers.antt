use Rattle.std.proofs.Common.{[], ◌∷◌, codes, refl, inl, inr, arith}
use Rattle.giop_cdr.specs.declared.order.Order.TheVariants.{Little}
use Rattle.laws_in_use.proofs.CdrSpelled.{counted, hi, three_little, took, two_little}
use Rattle.laws_in_use.proofs.cdr.a_string.Goals as goal

pub returns-clause-text : goal.returns-clause-text
returns-clause-text c = (c.strings_are_spelled.ensures.exact 0 _).only (codes "hi") _ (took _ (7 ∷ []) (hi, refl))

pub returns-clause-no_null : goal.returns-clause-no_null
returns-clause-no_null c = (c.strings_are_spelled.ensures.exact 0 _).refuses _
    (inr (record { first = 2; middle = _; front = counted Little 2 2 0 0 0 two_little _ (omega arith); back = inl (refl, refl) }))

pub returns-clause-bound : goal.returns-clause-bound
returns-clause-bound c = (c.strings_are_spelled.ensures.exact 1 _).refuses _
    (inr (record { first = 3; middle = _; front = counted Little 3 3 0 0 0 three_little _ (omega arith); back = inr (refl, refl, refl) }))

pub returns-clause-alone : goal.returns-clause-alone
returns-clause-alone c = λ text spelling rest spells is.
    (c.strings_are_spelled.ensures.alone Little 0 text (codes "hi") spelling (3 ∷ 0 ∷ 0 ∷ 0 ∷ 104 ∷ 105 ∷ 0 ∷ []) rest (7 ∷ []) spells hi is).0
