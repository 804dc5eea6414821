-- Two members, as a slice pattern finds them.
use Rattle.std.proofs.Common.{◌≡◌, ◌<◌, ◌≤◌, ℕ, ◌&&◌, Bool, List, [], ◌∷◌, map, length, get_or, refl, arith}
use Rattle.giop_types.specs.declared.description.desc.NamedDesc.{NamedDesc}
use Rattle.giop_types.specs.Descriptions.Checked.{same_name}
use Rattle.giop_types.specs.Descriptions.Shape.{Shape}
use Rattle.giop_json.specs.Reference.{are_two}
use Rattle.giop_types.specs.Values.Views.{desc_view, named_view, fields_of}
use Rattle.giop_types.proofs.Values.ViewLemmas.{view-Named}

pub are_two_of : (n m : List ℕ) (p q : Shape → Bool) (ms : List NamedDesc) (a b : NamedDesc) → 2 ≤ length ms → length ms < 3
    → a ≡ get_or ms 0 a → b ≡ get_or ms 1 b
    → ((same_name a.name n && p (desc_view a.desc)) && (same_name b.name m && q (desc_view b.desc))) ≡ are_two n p m q (fields_of (map named_view ms))
are_two_of n m p q [] a b some few one two = absurd (omega arith)
are_two_of n m p q (x ∷ []) a b some few one two = absurd (omega arith)
are_two_of n m p q (x ∷ y ∷ []) a b some few one two = rw (one, two, view-Named x, view-Named y) refl
are_two_of n m p q (x ∷ y ∷ z ∷ ms) a b some few one two = absurd (omega arith)
