-- How often a number stands in a list, and which numbers name blocks of their own.
use Rattle.std.proofs.Common.{◌≡◌, ℕ, zero, suc, ◌+◌, ◌==◌, ◌≤◌, ◌<◌, nat_lt, Bool, true, false, cond, List, [], ◌∷◌, ◌++◌, length, take, drop, get_or, refl, sym, ap, ◌∙◌, arith, take-append-drop}
use Rattle.std.proofs.lemmas.Bool.Decides.{nat_tests}
use Rattle.giop_frag.specs.Blocks.{times, once, AreApart}

-- numbers stand in joined lists as often as in both
pub times-append : (n : ℕ) (one two : List ℕ) → times n (one ++ two) ≡ times n one + times n two
times-append n [] two = omega arith
times-append n (m ∷ one) two = let rest = times-append n one two in omega arith

-- the number at a place stands there
pub times_at : (numbers : List ℕ) (i : ℕ) → i < length numbers → 1 ≤ times (get_or numbers i 0) numbers
times_at [] i within = absurd (omega arith)
times_at (m ∷ numbers) zero within = let same : (m == m) ≡ true = grind (arith, nat_tests) in rw same (omega arith)
times_at (m ∷ numbers) (suc i) within = let rest = times_at numbers i (omega arith) in omega arith

-- a number that stands where each names a block is below their number
pub named : (numbers : List ℕ) (blocks : List (List ℕ)) (n : ℕ) → AreApart blocks numbers → 1 ≤ times n numbers → n < length blocks
named numbers blocks n apart stands =
    let most = apart.apart n in
    by_test (nat_lt n (length blocks)) (λ below. grind (arith, nat_tests)) (omega arith)
  where
    by_test : (b : Bool) → (b ≡ true → n < length blocks) → 1 ≤ cond b 1 0 → n < length blocks
    by_test true below some = below refl
    by_test false below some = absurd (omega arith)

pub at_most_once : (n : ℕ) (blocks : List (List ℕ)) → once n blocks ≤ 1
at_most_once n blocks = by_test (nat_lt n (length blocks))
  where
    by_test : (b : Bool) → cond b 1 0 ≤ 1
    by_test true = omega arith
    by_test false = omega arith

-- as many blocks have the same numbers
pub once_same : (n : ℕ) (one two : List (List ℕ)) → length one ≡ length two → once n one ≡ once n two
once_same n one two same = ap (λ k. cond (nat_lt n k) 1 0) same

-- a number stands once more before a list
pub times_first : (n : ℕ) (numbers : List ℕ) → times n (n ∷ numbers) ≡ 1 + times n numbers
times_first n numbers = let same : (n == n) ≡ true = grind (arith, nat_tests) in rw same refl

-- numbers behind the first are apart too
pub rest_apart : (blocks : List (List ℕ)) (n : ℕ) (numbers : List ℕ) → AreApart blocks (n ∷ numbers) → AreApart blocks numbers
rest_apart blocks n numbers apart = record { apart = λ k. let most = apart.apart k in omega arith }

-- and the first is none of them
pub first_apart : (blocks : List (List ℕ)) (n : ℕ) (numbers : List ℕ) → AreApart blocks (n ∷ numbers) → times n numbers ≡ 0
first_apart blocks n numbers apart =
    let most = apart.apart n in
    let once = at_most_once n blocks in
    let stands = times_first n numbers in
    omega arith

-- numbers name blocks of their own wherever there are as many blocks
pub apart_same : (one two : List (List ℕ)) (numbers : List ℕ) → AreApart one numbers → length two ≡ length one → AreApart two numbers
apart_same one two numbers apart same = record {
  apart = λ n. let most = apart.apart n in let as_many = once_same n two one same in omega arith;
}

-- numbers stand in two parts of a list as often as in the list
pub times_parts : (n k : ℕ) (numbers : List ℕ) → times n (take k numbers) + times n (drop k numbers) ≡ times n numbers
times_parts n k numbers = sym (times-append n (take k numbers) (drop k numbers)) ∙ ap (times n) (take-append-drop k numbers)
