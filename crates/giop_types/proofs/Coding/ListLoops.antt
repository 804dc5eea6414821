-- Loops over a list that stop at the first item of which a test holds, or which has a fault.
use Rattle.std.proofs.Common.{◌≡◌, ℕ, ◌+◌, ◌<◌, ◌≤◌, Bool, true, false, ◌&&◌, ◌||◌, Option, None, Some, List}
use Rattle.std.proofs.Common.{[], ◌∷◌, drop, get_or, length, sym, ap, ◌∙◌}
use Rattle.std.proofs.Math.ListN.{drop_of_length-le}
use Rattle.std.specs.Option.{option_or}
use Rattle.giop_types.proofs.Coding.MemberLoops.{left_is}

-- a test of a list that holds where one of an item, and of what stands behind it, does
pub record IsSome {X : Type 0} (p : X → List X → Bool) (f : List X → Bool) : Type 0 where
  pub none : f [] ≡ false
  pub more : (x : X) (xs : List X) → f (x ∷ xs) ≡ (p x xs || f xs)

pub some_found : {X : Type 0} {p : X → List X → Bool} {f : List X → Bool} (h : IsSome p f) (xs : List X) (i : ℕ) (x : X) (total : Bool) → i < length xs
    → x ≡ get_or xs i x
    → p x (drop (i + 1) xs) ≡ true → f (drop i xs) ≡ total → true ≡ total
some_found {f} h xs i x total lt is found so_far =
    sym (ap f (left_is xs i x lt is) ∙ h.more x (drop (i + 1) xs) ∙ ap (λ b. b || f (drop (i + 1) xs)) found) ∙ so_far

pub some_passed : {X : Type 0} {p : X → List X → Bool} {f : List X → Bool} (h : IsSome p f) (xs : List X) (i : ℕ) (x : X) (total : Bool) → i < length xs
    → x ≡ get_or xs i x
    → p x (drop (i + 1) xs) ≡ false → f (drop i xs) ≡ total → f (drop (i + 1) xs) ≡ total
some_passed {f} h xs i x total lt is passed so_far =
    sym (ap f (left_is xs i x lt is) ∙ h.more x (drop (i + 1) xs) ∙ ap (λ b. b || f (drop (i + 1) xs)) passed) ∙ so_far

pub some_absent : {X : Type 0} {p : X → List X → Bool} {f : List X → Bool} (h : IsSome p f) (xs : List X) (i : ℕ) (total : Bool) → length xs ≤ i
    → f (drop i xs) ≡ total → false ≡ total
some_absent {f} h xs i total le so_far = sym (ap f (drop_of_length-le xs le) ∙ h.none) ∙ so_far

-- a test of a list that holds where one of each item does
pub record IsEach {X : Type 0} (p : X → Bool) (f : List X → Bool) : Type 0 where
  pub none : f [] ≡ true
  pub more : (x : X) (xs : List X) → f (x ∷ xs) ≡ (p x && f xs)

pub each_failed : {X : Type 0} {p : X → Bool} {f : List X → Bool} (h : IsEach p f) (xs : List X) (i : ℕ) (x : X) (total : Bool) → i < length xs
    → x ≡ get_or xs i x
    → p x ≡ false → f (drop i xs) ≡ total → false ≡ total
each_failed {f} h xs i x total lt is failed so_far =
    sym (ap f (left_is xs i x lt is) ∙ h.more x (drop (i + 1) xs) ∙ ap (λ b. b && f (drop (i + 1) xs)) failed) ∙ so_far

pub each_passed : {X : Type 0} {p : X → Bool} {f : List X → Bool} (h : IsEach p f) (xs : List X) (i : ℕ) (x : X) (total : Bool) → i < length xs
    → x ≡ get_or xs i x
    → p x ≡ true → f (drop i xs) ≡ total → f (drop (i + 1) xs) ≡ total
each_passed {f} h xs i x total lt is passed so_far =
    sym (ap f (left_is xs i x lt is) ∙ h.more x (drop (i + 1) xs) ∙ ap (λ b. b && f (drop (i + 1) xs)) passed) ∙ so_far

pub each_holds : {X : Type 0} {p : X → Bool} {f : List X → Bool} (h : IsEach p f) (xs : List X) (i : ℕ) (total : Bool) → length xs ≤ i → f (drop i xs) ≡ total
    → true ≡ total
each_holds {f} h xs i total le so_far = sym (ap f (drop_of_length-le xs le) ∙ h.none) ∙ so_far

-- the fault of the first item that has one
pub record IsFirst {X F : Type 0} (p : X → Option F) (f : List X → Option F) : Type 0 where
  pub none : f [] ≡ None
  pub more : (x : X) (xs : List X) → f (x ∷ xs) ≡ option_or (p x) (f xs)

pub first_found : {X F : Type 0} {p : X → Option F} {f : List X → Option F} (h : IsFirst p f) (xs : List X) (i : ℕ) (x : X) (total : Option F) (fault : F)
    → i < length xs → x ≡ get_or xs i x
    → p x ≡ Some fault → f (drop i xs) ≡ total → total ≡ Some fault
first_found {f} h xs i x total fault lt is found so_far =
    sym so_far ∙ ap f (left_is xs i x lt is) ∙ h.more x (drop (i + 1) xs) ∙ ap (λ o. option_or o (f (drop (i + 1) xs))) found

pub first_passed : {X F : Type 0} {p : X → Option F} {f : List X → Option F} (h : IsFirst p f) (xs : List X) (i : ℕ) (x : X) (total : Option F) → i < length xs
    → x ≡ get_or xs i x
    → p x ≡ None → f (drop i xs) ≡ total → f (drop (i + 1) xs) ≡ total
first_passed {f} h xs i x total lt is passed so_far =
    sym (ap f (left_is xs i x lt is) ∙ h.more x (drop (i + 1) xs) ∙ ap (λ o. option_or o (f (drop (i + 1) xs))) passed) ∙ so_far

pub first_absent : {X F : Type 0} {p : X → Option F} {f : List X → Option F} (h : IsFirst p f) (xs : List X) (i : ℕ) (total : Option F) → length xs ≤ i
    → f (drop i xs) ≡ total → total ≡ None
first_absent {f} h xs i total le so_far = sym so_far ∙ ap f (drop_of_length-le xs le) ∙ h.none
