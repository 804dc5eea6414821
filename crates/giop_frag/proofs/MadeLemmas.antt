-- Blocks that are made stand behind the others, and are free.
use Rattle.std.proofs.Common.{◌≡◌, ℕ, ◌+◌, ◌==◌, nat_lt, Bool, true, false, cond, List, [], ◌∷◌, ◌++◌, length, refl, ap, ◌∙◌, arith, length-append}
use Rattle.std.proofs.lemmas.List.{get_or_append_left}
use Rattle.std.proofs.lemmas.Bool.Decides.{nat_tests}
use Rattle.giop_frag.specs.Blocks.{Pooled, once, blank, made, HasGrown}
use Rattle.giop_frag.proofs.CountLemmas.{times-append}

pub no_growth : (p : Pooled) → HasGrown p p
no_growth p = record { kept = λ n below. refl; more = omega arith; free = refl; stands = λ n. refl }

-- a block more has the next number
once_more : (n : ℕ) (blocks : List (List ℕ)) (b : List ℕ)
    → once n (blocks ++ b ∷ []) ≡ once n blocks + cond (n == length blocks) 1 0
once_more n blocks b =
    ap (λ k. cond (nat_lt n k) 1 0) (length-append blocks (b ∷ []))
    ∙ by_tests (nat_lt n (length blocks + 1)) (nat_lt n (length blocks)) (n == length blocks)
    (λ is. grind (arith, nat_tests)) (λ is. grind (arith, nat_tests)) (λ one two is. grind (arith, nat_tests))
  where
    by_tests : (below before at : Bool) → (at ≡ true → (below ≡ true) × (before ≡ false)) → (before ≡ true → below ≡ true)
        → (at ≡ false → before ≡ false → below ≡ true → ⊥)
        → cond below 1 0 ≡ cond before 1 0 + cond at 1 0
    by_tests true true true here there none = let is = (here refl).1 in absurd cc
    by_tests true true false here there none = refl
    by_tests true false true here there none = refl
    by_tests true false false here there none = absurd (none refl refl refl)
    by_tests false true at here there none = let is = there refl in absurd cc
    by_tests false false true here there none = let is = (here refl).0 in absurd cc
    by_tests false false false here there none = refl

pub grown_more : (p q : Pooled) → HasGrown p q → HasGrown p (made q)
grown_more p q grown =
    let more = grown.more in
    let free = grown.free in
    let longer = length-append q.blocks (blank ∷ []) in
    let longer_free = length-append q.free (length q.blocks ∷ []) in
    record {
      kept = λ n below. get_or_append_left q.blocks (blank ∷ []) [] n (omega arith) ∙ grown.kept n below;
      more = omega arith;
      free = omega arith;
      stands = λ n.
          let before = grown.stands n in
          let one = times-append n q.free (length q.blocks ∷ []) in
          let two = once_more n q.blocks blank in
          omega arith;
    }
