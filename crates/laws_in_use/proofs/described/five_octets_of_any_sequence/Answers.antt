use Rattle.std.proofs.Common.{◌≡◌, [], ◌∷◌, true, refl}
use Rattle.giop_cdr.specs.declared.order.Order.TheVariants.{Big}
use Rattle.giop_types.specs.Descriptions.Full.{is_full}
use Rattle.laws_in_use.specs.Described.{many}
use Rattle.laws_in_use.proofs.described.five_octets_of_any_sequence.Goals as goal

full : is_full many ≡ true
unfolding is_full
full = refl

pub returns-clause-few : goal.returns-clause-few
returns-clause-few c = λ tree spells. c.values_are_bounded.ensures many full Big 0 tree (0 ∷ 0 ∷ 0 ∷ 1 ∷ 7 ∷ []) spells

pub returns-clause-fits : goal.returns-clause-fits
returns-clause-fits c = λ tree spells. c.spelled_values_fit.ensures many Big 0 tree (0 ∷ 0 ∷ 0 ∷ 1 ∷ 7 ∷ []) refl spells
