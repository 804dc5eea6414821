-- Counted values that are read or passed over, within another value.
use Rattle.std.proofs.Common.{◌≡◌, ◌≤◌, ℕ, Bool, true, false, nat_lt, length, if◌then◌else◌, Result, Ok, Err, refl, ap, arith}
use Rattle.std.proofs.lemmas.Bool.Decides.{nat_tests}
use Rattle.giop_cdr.specs.declared.fault.CdrFault.{CdrFault}
use Rattle.giop_cdr.specs.declared.fault.CdrKind.TheVariants.{BoundPassed}
use Rattle.giop_cdr.specs.Reading.Cursor.{Cursor, place}
use Rattle.giop_cdr.specs.Reading.Values.{Reading, ◌>>=◌, fault, count_at, octet_count_at, items_at, passes}
use Rattle.giop_cdr.specs.Reading.Outcome.{Skips}
use Rattle.giop_types.specs.Values.Tree.{Tree}
use Rattle.giop_types.specs.Coding.Decoding.{as_read, bounded_at, row_at}

-- a value that is passed over is so as another
pub skips_as : {X A B : Type 0} (f : A → B) (result : Result X CdrFault) (new : Cursor) (read : Reading A) → Skips result new read
    → Skips result new (as_read f read)
skips_as f (Ok x) new (Ok y) passed = passed
skips_as f (Ok x) new (Err e) passed = passed
skips_as f (Err e) new read refused = rw refused refl

-- a sequence whose count was read within its bound is so many values
pub bounded_is : (item : Cursor → Reading Tree) (bound count : ℕ) (c d : Cursor) → octet_count_at bound c ≡ Ok (count, d)
    → bounded_at item bound c ≡ items_at item count d
unfolding bounded_at octet_count_at
bounded_is item bound count c d counted = go (count_at c) counted
  where
    within : (past : Bool) (n : ℕ) (m : Cursor) → ◌≡◌ {A = Reading ℕ} (if past then Err (fault (place 4 c) BoundPassed) else Ok (n, m)) (Ok (count, d))
        → (if past then Err (fault (place 4 c) BoundPassed) else items_at item n m) ≡ items_at item count d
    within true n m is = absurd (cc)
    within false n m is =
        let pair : ◌≡◌ {A = ℕ × Cursor} (n, m) (count, d) = cc in
        ap (λ (x : ℕ × Cursor). items_at item x.0 x.1) pair

    go : (r : Reading ℕ) → ◌≡◌ {A = Reading ℕ} (r >>= λ n. if passes bound n.0 then Err (fault (place 4 c) BoundPassed) else Ok n) (Ok (count, d))
        → (r >>= λ n. if passes bound n.0 then Err (fault (place 4 c) BoundPassed) else items_at item n.0 n.1) ≡ items_at item count d
    go (Ok n) is = within (passes bound n.0) n.0 n.1 is
    go (Err e) is = absurd (cc)

-- an array that is no longer than what is left is so many values
pub row_is : (item : Cursor → Reading Tree) (n : ℕ) (c : Cursor) → n ≤ length c.rest → row_at item n c ≡ items_at item n c
unfolding row_at
row_is item n c there =
    let enough : nat_lt (length c.rest) n ≡ false = grind (arith, nat_tests) in
    rw enough refl
