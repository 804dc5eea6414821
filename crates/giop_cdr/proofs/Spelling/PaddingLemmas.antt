-- Padding, alignment by alignment.
use Rattle.std.proofs.Common.{◌≡◌, ℕ, ◌+◌, ◌%◌, ◌≤◌, ◌||◌, ◌⊎◌, inl, inr, Bool, true, false, refl, arith}
use Rattle.std.proofs.lemmas.Bool.{eqb-true}
use Rattle.giop_cdr.specs.Reading.Cursor.{is_alignment, pad}

or_parts : (a b : Bool) → (a || b) ≡ true → (a ≡ true) ⊎ (b ≡ true)
or_parts true b e = inl refl
or_parts false b e = inr e

-- the four alignments
by_alignment : (P : ℕ → Type 0) → P 1 → P 2 → P 4 → P 8 → (n : ℕ) → is_alignment n ≡ true → P n
by_alignment P one two four eight n is = elim (or_parts _ _ is) [
  | inl fewer ↦ elim (or_parts _ _ fewer) [
    | inl least ↦ elim (or_parts _ _ least) [
      | inl e ↦ rw (eqb-true n 1 e) one
      | inr e ↦ rw (eqb-true n 2 e) two
    ]
    | inr e ↦ rw (eqb-true n 4 e) four
  ]
  | inr e ↦ rw (eqb-true n 8 e) eight
]

pub padded_is_aligned : (n at : ℕ) → is_alignment n ≡ true → (at + pad n at) % n ≡ 0
padded_is_aligned n at is = by_alignment (λ m. (at + pad m at) % m ≡ 0) (omega arith) (omega arith) (omega arith) (omega arith) n is

pub pad_is_least : (n at k : ℕ) → is_alignment n ≡ true → (at + k) % n ≡ 0 → pad n at ≤ k
pad_is_least n at k is = by_alignment (λ m. (at + k) % m ≡ 0 → pad m at ≤ k) (λ e. omega arith) (λ e. omega arith) (λ e. omega arith) (λ e. omega arith) n is
