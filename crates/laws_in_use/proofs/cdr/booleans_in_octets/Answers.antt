use Rattle.std.proofs.Common.{[], ◌∷◌, true, false, refl, inl, inr, arith}
use Rattle.giop_cdr.specs.declared.order.Order.TheVariants.{Big}
use Rattle.giop_cdr.specs.Writing.Output.{number_out}
use Rattle.laws_in_use.proofs.CdrSpelled.{again, octet_two, took}
use Rattle.laws_in_use.proofs.cdr.booleans_in_octets.Goals as goal

pub returns-clause-yes : goal.returns-clause-yes
returns-clause-yes c = (c.booleans_are_spelled.ensures.exact _).only true _ (took (1 ∷ []) (0 ∷ []) refl)

pub returns-clause-bad : goal.returns-clause-bad
returns-clause-bad c = (c.booleans_are_spelled.ensures.exact _).refuses _
    (inr (record { first = 2; middle = _; front = took _ [] octet_two; back = (omega arith, refl) }))

pub returns-clause-none : goal.returns-clause-none
returns-clause-none c = (c.booleans_are_spelled.ensures.exact _).refuses _ (inl (omega arith, refl))

pub returns-clause-alone : goal.returns-clause-alone
returns-clause-alone c = λ v octets rest spells is.
    (c.booleans_are_spelled.ensures.alone Big 5 v true octets (1 ∷ []) rest (0 ∷ []) spells refl is).0

pub returns-clause-back : goal.returns-clause-back
unfolding number_out
returns-clause-back c = again (c.booleans_are_spelled.ensures.back false (record { order = Big; at = 5; octets = [] })) refl (7 ∷ [])
