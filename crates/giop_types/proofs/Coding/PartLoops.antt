-- Loops that make a part of each item of a list, unless an item has none.
use Rattle.std.proofs.Common.{◌≡◌, ℕ, ◌+◌, ◌<◌, ◌≤◌, Option, Some, None, option_map, option_and_then, List}
use Rattle.std.proofs.Common.{[], ◌∷◌, ◌++◌, drop, get_or, length, refl, sym, ap, ◌∙◌, append_assoc}
use Rattle.std.proofs.Math.ListN.{drop_of_length-le}
use Rattle.std.proofs.lemmas.List.{append-nil}
use Rattle.giop_types.proofs.Coding.MemberLoops.{left_is}

-- the parts that were made before, and those that are still made
abbrev pub with_front : {A : Type 0} → List A → Option (List A) → Option (List A)
with_front front parts = option_map (λ more. front ++ more) parts

-- a list of parts that is there where each item has one
pub record IsEachPart {X Y : Type 0} (p : X → Option Y) (f : List X → Option (List Y)) : Type 0 where
  pub none : f [] ≡ Some []
  pub more : (x : X) (xs : List X) → f (x ∷ xs) ≡ option_and_then (λ y. option_map (λ ys. y ∷ ys) (f xs)) (p x)

regroup : {A : Type 0} (front : List A) (v : A) (parts : Option (List A))
    → with_front front (option_map (λ vs. v ∷ vs) parts) ≡ with_front (front ++ v ∷ []) parts
regroup {A} front v (Some vs) = ap (λ (us : List A). Some us) (simp append_assoc)
regroup front v None = refl

-- an item that has a part
pub part_made : {X Y : Type 0} {p : X → Option Y} {f : List X → Option (List Y)} (h : IsEachPart p f) (front : List Y) (xs : List X) (i : ℕ) (x : X) (y : Y)
    (total : Option (List Y))
    → i < length xs → x ≡ get_or xs i x → p x ≡ Some y → with_front front (f (drop i xs)) ≡ total → with_front (front ++ y ∷ []) (f (drop (i + 1) xs)) ≡ total
part_made {Y} {p} {f} h front xs i x y total lt is made so_far =
    let one : f (drop i xs) ≡ option_map (λ (ys : List Y). y ∷ ys) (f (drop (i + 1) xs))
    = ap f (left_is xs i x lt is) ∙ h.more x (drop (i + 1) xs) ∙ ap (option_and_then (λ z. option_map (λ (ys : List Y). z ∷ ys) (f (drop (i + 1) xs)))) made in
    sym (ap (with_front front) one ∙ regroup front y (f (drop (i + 1) xs))) ∙ so_far

-- an item that has none
pub part_missing : {X Y : Type 0} {p : X → Option Y} {f : List X → Option (List Y)} (h : IsEachPart p f) (front : List Y) (xs : List X) (i : ℕ) (x : X)
    (total : Option (List Y))
    → i < length xs → x ≡ get_or xs i x → p x ≡ None → with_front front (f (drop i xs)) ≡ total → total ≡ None
part_missing {Y} {p} {f} h front xs i x total lt is missing so_far =
    let one : f (drop i xs) ≡ None
    = ap f (left_is xs i x lt is) ∙ h.more x (drop (i + 1) xs)
    ∙ ap (option_and_then (λ z. option_map (λ (ys : List Y). z ∷ ys) (f (drop (i + 1) xs)))) missing in
    sym so_far ∙ ap (with_front front) one

-- no item is left
pub parts_made : {X Y : Type 0} {p : X → Option Y} {f : List X → Option (List Y)} (h : IsEachPart p f) (front : List Y) (xs : List X) (i : ℕ)
    (total : Option (List Y))
    → length xs ≤ i → with_front front (f (drop i xs)) ≡ total → total ≡ Some front
parts_made {Y} {f} h front xs i total le so_far =
    sym so_far ∙ ap (with_front front) (ap f (drop_of_length-le xs le) ∙ h.none) ∙ ap (λ (ys : List Y). Some ys) (append-nil front)
