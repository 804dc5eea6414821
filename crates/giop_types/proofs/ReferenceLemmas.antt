-- Which members are those of a reference, and what its text shows.
use Rattle.std.proofs.Common.{◌≡◌, ℕ, Bool, false, List, [], ◌∷◌, map, length, None, option_and_then, refl, arith, drop, slice_index, ◌<◌}
use Rattle.giop_types.specs.declared.desc.NamedDesc.{NamedDesc}
use Rattle.giop_types.specs.Shape.{Shape}
use Rattle.giop_types.specs.Reference.{are_two, encapsulated_in, content_in, order_in}
use Rattle.giop_types.specs.Views.{named_view, fields_of}

pub not_two : (n m : List ℕ) (p q : Shape → Bool) (ms : List NamedDesc) → (length ms ≡ 2 → ⊥) → are_two n p m q (fields_of (map named_view ms)) ≡ false
not_two n m p q [] other = refl
not_two n m p q (a ∷ []) other = refl
not_two n m p q (a ∷ b ∷ []) other = absurd (other refl)
not_two n m p q (a ∷ b ∷ c ∷ ms) other = refl

-- a list that isn't empty is its first item, and the rest
pub encapsulated_parts : (s : Shape) (b : List ℕ) → 0 < length b → encapsulated_in s b ≡ option_and_then (content_in s (drop 1 b)) (order_in (slice_index b 0))
encapsulated_parts s [] h = absurd (omega arith)
encapsulated_parts s (o ∷ rest) h = refl

pub none_encapsulated : (s : Shape) (b : List ℕ) → length b ≡ 0 → encapsulated_in s b ≡ None
none_encapsulated s [] h = refl
none_encapsulated s (o ∷ rest) h = absurd (omega arith)
