use Rattle.std.proofs.Common.{◌≡◌, [], ◌∷◌, Bool, true, false, refl}
use Rattle.giop_types.specs.Values.Tree.{boolean_of}
use Rattle.laws_in_use.proofs.described.equal_and_unequal_values.Goals as goal

not_true : (b : Bool) → (b ≡ true → ⊥) → b ≡ false
not_true true none = absurd (none refl)
not_true false none = refl

pub returns-clause-same : goal.returns-clause-same
returns-clause-same c = λ one. (c.equal_values_are_the_same.ensures.values one one).1 refl

pub returns-clause-apart : goal.returns-clause-apart
returns-clause-apart c = not_true _ (λ same.
    let is = (c.equal_values_are_the_same.ensures.lists (boolean_of true ∷ []) (boolean_of false ∷ [])).0 same in
    absurd cc)
