use Rattle.std.proofs.Common.{[], ◌∷◌, codes, refl, inl, inr, arith}
use Rattle.giop_cdr.specs.declared.order.Order.TheVariants.{Big}
use Rattle.laws_in_use.proofs.CdrSpelled.{abc, counted, five_big, three_big, took}
use Rattle.laws_in_use.proofs.cdr.a_sequence_of_octets.Goals as goal

pub returns-clause-three : goal.returns-clause-three
returns-clause-three c = (c.octets_are_spelled.ensures.exact 0 _).only (codes "abc") _ (took _ (7 ∷ []) (abc, refl))

pub returns-clause-bound : goal.returns-clause-bound
returns-clause-bound c = (c.octets_are_spelled.ensures.exact 2 _).refuses _
    (inr (record { first = 3; middle = _; front = counted Big 3 0 0 0 3 three_big _ (omega arith); back = (refl, refl) }))

pub returns-clause-count : goal.returns-clause-count
returns-clause-count c = (c.octets_are_spelled.ensures.exact 0 _).refuses _
    (inl (inr (record { first = 5; middle = _; front = took (0 ∷ 0 ∷ 0 ∷ 5 ∷ []) _ five_big; back = (omega arith, refl) })))

pub returns-clause-alone : goal.returns-clause-alone
returns-clause-alone c = λ octets spelling rest spells is.
    (c.octets_are_spelled.ensures.alone Big 0 octets (codes "abc") spelling (0 ∷ 0 ∷ 0 ∷ 3 ∷ 97 ∷ 98 ∷ 99 ∷ []) rest (7 ∷ []) spells abc is).0
