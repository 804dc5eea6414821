-- Sequences of longs, read at once.
use Rattle.std.proofs.Common.{◌≡◌, Bool, true, false, cond, ℕ, zero, suc, ◌+◌, ◌*◌, ◌/◌, ◌%◌, ◌<◌, ◌≤◌, Ok, Err, List, map, length, take, drop, refl, sym, ap, ◌∙◌, inl, inr, add-zero, arith}
use Rattle.std.proofs.lemmas.Bool.{cases_lt, lt-ltb, le-ltb}
use Rattle.std.proofs.lemmas.List.{drop-drop, drop-take, length-drop, length-take-le, take-take}
use Rattle.std.specs.Prelude.{IsOk}
use Rattle.std.specs.Int.{w32}
use Rattle.std.specs.Simd.{first_chunks}
use Rattle.giop_cdr.specs.declared.order.Order.{Order}
use Rattle.giop_cdr.specs.declared.fault.CdrFault.{CdrFault}
use Rattle.giop_cdr.specs.declared.fault.CdrKind.TheVariants.{Short}
use Rattle.giop_cdr.specs.Longs.{long_of}
use Rattle.giop_cdr.specs.Reading.Cursor.{Cursor, pad, skip}
use Rattle.giop_cdr.specs.Reading.Values.{Reading, fault, field_at, number_at, signed_at, count_at, items_at, sequence_at}

no_padding : (at : ℕ) → at % 4 ≡ 0 → pad 4 at ≡ 0
no_padding at aligned = omega arith

-- a long that is there
long_there : (c : Cursor) → c.at % 4 ≡ 0 → 4 ≤ length c.rest → signed_at w32 c ≡ Ok (long_of c.order (take 4 c.rest), skip 4 c)
unfolding signed_at number_at field_at
long_there c aligned there = rw (no_padding c.at aligned, le-ltb (length c.rest) 4 there) refl

-- one that isn't
long_missing : (c : Cursor) → c.at % 4 ≡ 0 → length c.rest < 4 → signed_at w32 c ≡ Err (fault c.at Short)
unfolding signed_at number_at field_at
long_missing c aligned short = rw (no_padding c.at aligned, lt-ltb (length c.rest) 4 short, add-zero) refl

skip_further : (m n : ℕ) (c : Cursor) → skip m (skip n c) ≡ skip (n + m) c
skip_further m n c =
    let at : c.at + n + m ≡ c.at + (n + m) = omega arith in
    rw (at, drop-drop m n c.rest) refl

-- longs that are there
pub longs_there : (count : ℕ) (c : Cursor) → c.at % 4 ≡ 0 → 4 * count ≤ length c.rest →
    items_at (signed_at w32) count c ≡ Ok (map (long_of c.order) (first_chunks 4 count c.rest), skip (4 * count) c)
unfolding items_at
longs_there zero c aligned there = rw add-zero refl
longs_there (suc n) c aligned there =
    let left : 4 * n ≤ length (drop 4 c.rest) = omega (arith, length-drop 4 c.rest) in
    let others = longs_there n (skip 4 c) (omega arith) left in
    let behind : skip (4 * n) (skip 4 c) ≡ skip (4 * suc n) c = skip_further (4 * n) 4 c ∙ ap (λ k. skip k c) (omega arith) in
    rw (long_there c aligned (omega arith), others, behind) refl

-- longs of which one isn't there
pub longs_short : (count : ℕ) (c : Cursor) → c.at % 4 ≡ 0 → length c.rest < 4 * count →
    items_at (signed_at w32) count c ≡ Err (fault (c.at + length c.rest / 4 * 4) Short)
unfolding items_at
longs_short zero c aligned short = absurd (omega arith)
longs_short (suc n) c aligned short =
    elim (cases_lt (length c.rest) 4) as (λ _. items_at (signed_at w32) (suc n) c ≡ Err (fault (c.at + length c.rest / 4 * 4) Short)) [
      | inl h ↦
          let here : c.at ≡ c.at + length c.rest / 4 * 4 = omega arith in
          rw (long_missing c aligned h) (ap (λ at. Err (fault at Short)) here)
      | inr h ↦
          let left : length (drop 4 c.rest) < 4 * n = omega (arith, length-drop 4 c.rest) in
          let others = longs_short n (skip 4 c) (omega arith) left in
          let same : c.at + 4 + length (drop 4 c.rest) / 4 * 4 ≡ c.at + length c.rest / 4 * 4 = omega (arith, length-drop 4 c.rest) in
          rw (long_there c aligned h, others) (ap (λ at. Err (fault at Short)) same)
    ]

-- as many fours as are asked for, of octets that go on behind them
first_fours : (n : ℕ) (octets : List ℕ) → first_chunks 4 n (take (4 * n) octets) ≡ first_chunks 4 n octets
first_fours zero octets = refl
first_fours (suc n) octets =
    let more : 4 * suc n ≡ 4 + 4 * n = omega arith in
    let first : take 4 (take (4 + 4 * n) octets) ≡ take 4 octets = take-take 4 (4 + 4 * n) octets (omega arith) in
    let others : drop 4 (take (4 + 4 * n) octets) ≡ take (4 * n) (drop 4 octets) = drop-take 4 (4 * n) octets in
    rw (more, first, others, first_fours n (drop 4 octets)) refl

pub fours_counted : (order : Order) (n : ℕ) (octets : List ℕ) → length (map (long_of order) (first_chunks 4 n octets)) ≡ n
fours_counted order zero octets = refl
fours_counted order (suc n) octets = ap (λ k. suc k) (fours_counted order n (drop 4 octets))

pub fours_there : (n : ℕ) (rest octets : List ℕ) → 4 * n ≤ length rest → octets ≡ take (4 * n) rest →
    first_chunks 4 (length octets / 4) octets ≡ first_chunks 4 n rest
fours_there n rest octets there is =
    let long : length octets ≡ 4 * n = rw is (length-take-le (4 * n) rest there) in
    let count : length octets / 4 ≡ n = rw long (omega arith) in
    rw (count, is) (first_fours n rest)

-- a run of all octets is all of them
pub run_is_all : (n : ℕ) (rest octets run : List ℕ) → octets ≡ take (4 * n) rest → run ≡ take (length run) (drop 0 octets) → length run ≡ 4 * n →
    run ≡ take (4 * n) rest
run_is_all n rest octets run is part long =
    part ∙ ap (λ k. take k octets) long ∙ ap (take (4 * n)) is ∙ take-take (4 * n) (4 * n) rest (omega arith)

-- behind a count no long needs padding
aligned_behind : (at : ℕ) → (at + (pad 4 at + 4)) % 4 ≡ 0
aligned_behind at = omega arith

-- where a count isn't too large, the cursor is the one behind it
cursor_of : Reading ℕ → Cursor → Cursor
cursor_of (Ok x) d = x.1
cursor_of (Err e) d = d

behind_test : (large : Bool) (f : CdrFault) (m n : ℕ) (here d : Cursor) → cond {A = Reading ℕ} large (Err f) (Ok (m, here)) ≡ Ok (n, d) → d ≡ here
unfolding cursor_of
behind_test true f m n here d h = absurd cc
behind_test false f m n here d h = sym (ap (λ (r : Reading ℕ). cursor_of r d) h)

pub behind_count : (c d : Cursor) (n : ℕ) → count_at c ≡ Ok (n, d) → d.at % 4 ≡ 0
unfolding count_at number_at field_at
behind_count c d n h = elim (cases_lt (length c.rest) (pad 4 c.at + 4)) as (λ _. d.at % 4 ≡ 0) [
  | inl short ↦
      let no = rw (lt-ltb (length c.rest) (pad 4 c.at + 4) short) at h in
      absurd cc
  | inr enough ↦
      let left = rw (le-ltb (length c.rest) (pad 4 c.at + 4) enough) at h in
      ap (λ (x : Cursor). x.at % 4) (behind_test _ _ _ _ _ _ left) ∙ aligned_behind c.at
]

-- the sequence, by the steps in which it is read
counted : (c d : Cursor) (n : ℕ) → count_at c ≡ Ok (n, d) → sequence_at (signed_at w32) c ≡ items_at (signed_at w32) n d
unfolding sequence_at
counted c d n h = rw h refl

pub longs_counted : (c d : Cursor) (n : ℕ) → count_at c ≡ Ok (n, d) → 4 * n ≤ length d.rest →
    sequence_at (signed_at w32) c ≡ Ok (map (long_of d.order) (first_chunks 4 n d.rest), skip (4 * n) d)
longs_counted c d n h there = counted c d n h ∙ longs_there n d (behind_count c d n h) there

pub longs_are_ok : (c d : Cursor) (n : ℕ) → count_at c ≡ Ok (n, d) → 4 * n ≤ length d.rest → IsOk (sequence_at (signed_at w32) c)
longs_are_ok c d n h there = rw (longs_counted c d n h there) refl

pub longs_missing : (c d : Cursor) (n : ℕ) → count_at c ≡ Ok (n, d) → length d.rest < 4 * n →
    sequence_at (signed_at w32) c ≡ Err (fault (d.at + length d.rest / 4 * 4) Short)
longs_missing c d n h short = counted c d n h ∙ longs_short n d (behind_count c d n h) short

pub longs_uncounted : (c : Cursor) (e : CdrFault) → count_at c ≡ Err e → sequence_at (signed_at w32) c ≡ Err e
unfolding sequence_at
longs_uncounted c e h = rw h refl
