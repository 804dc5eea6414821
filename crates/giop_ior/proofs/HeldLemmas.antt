-- Values in the ranges of their types, one after the other by a loop.
use Rattle.std.proofs.Common.{◌≡◌, ℕ, ◌+◌, ◌<◌, ◌≤◌, List, ◌∷◌, length, get_or, drop, refl, sym, subst, ◌∙◌, add-one, drop-cons}
use Rattle.std.proofs.lemmas.List.{drop_all}
use Rattle.std.specs.List.{AllByRecursion}

-- a turn of the loop: a value holds, and those behind it
pub held_on : {A : Type 0} (P : A → Type 0) (xs : List A) (i : ℕ) (x : A) (All : Type 0) → i < length xs → x ≡ get_or xs i x → P x
    → (AllByRecursion P (drop i xs) → All) → AllByRecursion P (drop (i + 1) xs) → All
held_on {A} P xs i x All there is one so_far behind =
    let split : drop i xs ≡ x ∷ drop (i + 1) xs = rw add-one (drop-cons xs i x there ∙ rw (← is) refl) in
    so_far (subst (λ (ys : List A). AllByRecursion P ys) (sym split) (one, behind))

-- the loop is done
pub none_left : {A : Type 0} (P : A → Type 0) (xs : List A) (i : ℕ) → length xs ≤ i → AllByRecursion P (drop i xs)
none_left {A} P xs i all = subst (λ (ys : List A). AllByRecursion P ys) (sym (drop_all i xs all)) tt
