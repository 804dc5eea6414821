-- Two lists of values that are compared one by one.
use Rattle.std.proofs.Common.{◌≡◌, ℕ, ◌+◌, ◌<◌, ◌≤◌, Bool, true, false, ◌&&◌, List, [], ◌∷◌, map, drop, get_or, length, refl, sym, ap, ◌∙◌, arith}
use Rattle.std.proofs.Math.ListN.{drop_of_length-le}
use Rattle.std.specs.Cmp.Lexicographic.{pointwise}
use Rattle.giop_types.specs.declared.value.Value.{Value}
use Rattle.giop_types.specs.Values.Same.{same_tree, same_trees}
use Rattle.giop_types.specs.Values.Tree.{Tree}
use Rattle.giop_types.specs.Values.Views.{value_view, trees_of}
use Rattle.giop_types.proofs.Coding.MemberLoops.{left_is}

-- whether two lists are the same
abbrev pub are_same : List Value → List Value → Bool
are_same xs ys = same_trees (trees_of (map value_view xs)) (trees_of (map value_view ys))

-- the same, of what they show
pub one_by_one : (xs ys : List Tree) → same_trees (trees_of xs) (trees_of ys) ≡ pointwise same_tree xs ys
unfolding same_tree
one_by_one [] [] = refl
one_by_one [] (y ∷ ys) = refl
one_by_one (x ∷ xs) [] = refl
one_by_one (x ∷ xs) (y ∷ ys) = ap (λ b. same_tree x y && b) (one_by_one xs ys)

step : (xs ys : List Value) (i : ℕ) (x y : Value) → i < length xs → i < length ys → x ≡ get_or xs i x → y ≡ get_or ys i y
    → are_same (drop i xs) (drop i ys) ≡ (same_tree (value_view x) (value_view y) && are_same (drop (i + 1) xs) (drop (i + 1) ys))
unfolding same_tree
step xs ys i x y lt has is_x is_y = rw (left_is xs i x lt is_x, left_is ys i y has is_y) refl

-- two values differ, or are the same
pub pair_differs : (xs ys : List Value) (i : ℕ) (x y : Value) (total : Bool) → i < length xs → length xs ≡ length ys → x ≡ get_or xs i x → y ≡ get_or ys i y
    → same_tree (value_view x) (value_view y) ≡ false → are_same (drop i xs) (drop i ys) ≡ total → false ≡ total
pair_differs xs ys i x y total lt many is_x is_y differ so_far =
    sym (sym so_far ∙ step xs ys i x y lt (omega arith) is_x is_y ∙ ap (λ b. b && are_same (drop (i + 1) xs) (drop (i + 1) ys)) differ)

pub pair_same : (xs ys : List Value) (i : ℕ) (x y : Value) (total : Bool) → i < length xs → length xs ≡ length ys → x ≡ get_or xs i x → y ≡ get_or ys i y
    → same_tree (value_view x) (value_view y) ≡ true → are_same (drop i xs) (drop i ys) ≡ total → are_same (drop (i + 1) xs) (drop (i + 1) ys) ≡ total
pair_same xs ys i x y total lt many is_x is_y same so_far =
    sym (step xs ys i x y lt (omega arith) is_x is_y ∙ ap (λ b. b && are_same (drop (i + 1) xs) (drop (i + 1) ys)) same) ∙ so_far

-- none is left
pub pairs_end : (xs ys : List Value) (i : ℕ) → length xs ≤ i → length ys ≤ i → are_same (drop i xs) (drop i ys) ≡ true
unfolding same_tree
pairs_end xs ys i le few = rw (drop_of_length-le xs le, drop_of_length-le ys few) refl

and_false : (a b : Bool) → b ≡ false → (a && b) ≡ false
and_false true b h = h
and_false false b h = refl

-- lists of other lengths
pub lengths_differ : (xs ys : List Value) → (length xs ≡ length ys → ⊥) → are_same xs ys ≡ false
unfolding same_tree
lengths_differ [] [] differ = absurd (differ refl)
lengths_differ [] (y ∷ ys) differ = refl
lengths_differ (x ∷ xs) [] differ = refl
lengths_differ (x ∷ xs) (y ∷ ys) differ =
    and_false (same_tree (value_view x) (value_view y)) (are_same xs ys) (lengths_differ xs ys (λ same. differ (omega arith)))
