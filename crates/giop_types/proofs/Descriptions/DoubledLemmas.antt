-- What it means that nothing stands twice: any two items at different places differ.
use Rattle.std.proofs.Common.{◌≡◌, ◌≢◌, ◌↔◌, ℕ, zero, suc, ℤ, Bool, false, List, [], ◌∷◌}
use Rattle.std.proofs.Common.{refl, sym, ◌∙◌, arith}
use Rattle.std.specs.Bool.{Decides}
use Rattle.std.specs.List.{list_any, All, AllPairs}
use Rattle.std.specs.Ordering.{int_eq}
use Rattle.std.specs.Cmp.Lexicographic.{bytes_decides}
use Rattle.std.proofs.lemmas.Bool.Decides.{Decides-int_eq}
use Rattle.std.proofs.lemmas.Bool.{or_parts, or_from, false_from_ne_true, both_ways}
use Rattle.std.proofs.lemmas.List.Elements.{All-nil, All-cons}
use Rattle.std.proofs.lemmas.List.Folds.{list_any_none}
use Rattle.giop_types.specs.Descriptions.Checked.{has_doubled, same_name}

none_passes : {X : Type 0} (p : X → Bool) (xs : List X) → list_any p xs ≡ false → All (λ x. p x ≡ false) xs
none_passes p [] h = All-nil (λ x. p x ≡ false)
none_passes p (x ∷ xs) h =
    let parts = or_parts (p x) (list_any p xs) h in
    All-cons (λ y. p y ≡ false) x xs parts.0 (none_passes p xs parts.1)

pairs_cons : {X : Type 0} (R : X → X → Type 0) (x : X) (xs : List X) → All (R x) xs → AllPairs R xs → AllPairs R (x ∷ xs)
pairs_cons R x xs first rest zero zero d lt bound = absurd (omega arith)
pairs_cons R x xs first rest zero (suc j) d lt bound = first j d (omega arith)
pairs_cons R x xs first rest (suc i) zero d lt bound = absurd (omega arith)
pairs_cons R x xs first rest (suc i) (suc j) d lt bound = rest i j d (omega arith) (omega arith)

-- two places of a list without doubles have items that differ
tested_apart : {X : Type 0} (equal : X → X → Bool) (xs : List X) → has_doubled equal xs ≡ false → AllPairs (λ x y. equal y x ≡ false) xs
tested_apart equal [] h = λ i j d lt bound. absurd (omega arith)
tested_apart equal (x ∷ xs) h =
    let parts = or_parts (list_any (λ y. equal y x) xs) (has_doubled equal xs) h in
    pairs_cons (λ x y. equal y x ≡ false) x xs (none_passes (λ y. equal y x) xs parts.0) (tested_apart equal xs parts.1)

apart_tested : {X : Type 0} (equal : X → X → Bool) (xs : List X) → AllPairs (λ x y. equal y x ≡ false) xs → has_doubled equal xs ≡ false
apart_tested equal [] h = refl
apart_tested equal (x ∷ xs) h =
    or_from (list_any (λ y. equal y x) xs) (has_doubled equal xs)
    (list_any_none (λ y. equal y x) xs (λ k d lt. h zero (suc k) d (omega arith) (omega arith)))
    (apart_tested equal xs (λ i j d lt bound. h (suc i) (suc j) d (omega arith) (omega arith)))

doubled_apart : {X : Type 0} (equal : X → X → Bool) → ((x y : X) → Decides (equal x y) (x ≡ y)) → (xs : List X) → has_doubled equal xs ≡ false
    → AllPairs (λ x y. x ≢ y) xs
doubled_apart equal decides xs h i j d lt bound same =
    both_ways (equal _ _) (tested_apart equal xs h i j d lt bound) ((decides _ _).1 (sym same))

apart_doubled : {X : Type 0} (equal : X → X → Bool) → ((x y : X) → Decides (equal x y) (x ≡ y)) → (xs : List X) → AllPairs (λ x y. x ≢ y) xs
    → has_doubled equal xs ≡ false
apart_doubled equal decides xs h =
    apart_tested equal xs (λ i j d lt bound. false_from_ne_true (equal _ _) (λ e. h i j d lt bound (sym ((decides _ _).0 e))))

-- no name stands twice where any two differ
pub names_apart : (b : Bool) (names : List (List ℕ)) → b ≡ has_doubled same_name names → (b ≡ false) ↔ AllPairs (λ x y. x ≢ y) names
names_apart b names is = (λ h. doubled_apart same_name bytes_decides names (sym is ∙ h), λ h. is ∙ apart_doubled same_name bytes_decides names h)

-- no label stands twice where any two differ
pub labels_apart : (b : Bool) (labels : List ℤ) → b ≡ has_doubled int_eq labels → (b ≡ false) ↔ AllPairs (λ x y. x ≢ y) labels
labels_apart b labels is = (λ h. doubled_apart int_eq Decides-int_eq labels (sym is ∙ h), λ h. is ∙ apart_doubled int_eq Decides-int_eq labels h)
