use Rattle.std.proofs.Common.{[], ◌∷◌, ◌++◌, ℕ, List, ap, refl, inl, inr, arith}
use Rattle.giop_cdr.specs.declared.order.Order.TheVariants.{Big, Little}
use Rattle.giop_cdr.specs.Encapsulation.Opened.{closed, opened, place_opened}
use Rattle.giop_cdr.specs.Writing.Output.{Output, number_out, octets_out}
use Rattle.laws_in_use.proofs.CdrSpelled.{again, no_octets, octet_of_two, took}
use Rattle.laws_in_use.proofs.cdr.an_encapsulation_in_another_order.Goals as goal

-- nothing, and what stands there before the length is known
abbrev out : Output
out = record { order = Big; at = 0; octets = [] }

abbrev content : List ℕ
content = 0 ∷ 0 ∷ 0 ∷ 2 ∷ 1 ∷ 0 ∷ 0 ∷ []

abbrev now : Output
now = record { order = Little; at = 8; octets = (opened Little out).octets ++ content }

pub returns-clause-opens : goal.returns-clause-opens
unfolding number_out octets_out closed opened place_opened
returns-clause-opens c = again (c.encapsulations_are_opened_again.ensures.back Little out now content refl (omega arith)) refl []

pub returns-clause-written : goal.returns-clause-written
unfolding number_out octets_out closed opened place_opened
returns-clause-written c = ap (λ out. out.octets) (c.encapsulations_are_opened_again.ensures.written Little out now content refl)

pub returns-clause-empty : goal.returns-clause-empty
returns-clause-empty c = (c.encapsulations_are_opened_again.ensures.exact _).refuses _
    (inr (record { first = []; middle = _; front = took (0 ∷ 0 ∷ 0 ∷ 0 ∷ []) [] no_octets; back = inl (refl, refl) }))

pub returns-clause-order : goal.returns-clause-order
returns-clause-order c = (c.encapsulations_are_opened_again.ensures.exact _).refuses _
    (inr (record { first = 2 ∷ []; middle = _; front = took (0 ∷ 0 ∷ 0 ∷ 1 ∷ 2 ∷ []) [] octet_of_two; back = inr (omega arith, refl) }))
