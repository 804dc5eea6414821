-- Strings and octet sequences, by the steps in which they are read.
use Rattle.std.proofs.Common.{◌≡◌, ℕ, ◌-◌, Bool, true, false, not, cond, if◌then◌else◌, Result, Ok, Err, List, take, refl, sym}
use Rattle.std.specs.Prelude.{IsOk}
use Rattle.giop_cdr.specs.declared.fault.CdrFault.{CdrFault}
use Rattle.giop_cdr.specs.declared.fault.CdrKind.TheVariants.{BadString, BoundPassed}
use Rattle.giop_cdr.specs.Reading.Cursor.{Cursor, place, skip}
use Rattle.giop_cdr.specs.Reading.Values.{Reading, ◌>>=◌, past, fault, count_at, octet_count_at, octets_at, text_count_at, string_at, is_text, passes}

-- a test, and then a step
test_then : {A B : Type 0} (b : Bool) (e : CdrFault) (r : Result A CdrFault) (g : A → Result B CdrFault) → (cond b (Err e) r >>= g) ≡ cond b (Err e) (r >>= g)
test_then true e r g = refl
test_then false e r g = refl

abbrev counted_octets : ℕ × Cursor → Reading (List ℕ)
counted_octets n = Ok (take n.0 n.1.rest, skip n.0 n.1)

octets_by_count : (bound : ℕ) (c : Cursor) (r : Reading ℕ)
    → ((r >>= λ n. if passes bound n.0 then Err (fault (place 4 c) BoundPassed) else Ok n) >>= counted_octets)
    ≡ (r >>= λ n. if passes bound n.0 then Err (fault (place 4 c) BoundPassed) else counted_octets n)
octets_by_count bound c (Ok n) = test_then (passes bound n.0) (fault (place 4 c) BoundPassed) (Ok n) counted_octets
octets_by_count bound c (Err e) = refl

octets_steps : (bound : ℕ) (c : Cursor) → octets_at bound c ≡ (octet_count_at bound c >>= counted_octets)
unfolding octets_at octet_count_at
octets_steps bound c = sym (octets_by_count bound c (count_at c))

-- the octets that were counted
pub octets_counted : (bound : ℕ) (c d : Cursor) (n : ℕ) → octet_count_at bound c ≡ Ok (n, d) → octets_at bound c ≡ Ok (take n d.rest, skip n d)
octets_counted bound c d n h = rw (octets_steps bound c, h) refl

pub octets_passed : (bound : ℕ) (c d : Cursor) (n : ℕ) → octet_count_at bound c ≡ Ok (n, d) → past (octets_at bound c) ≡ Ok (skip n d)
octets_passed bound c d n h = rw (octets_counted bound c d n h) refl

pub octets_there : (bound : ℕ) (c d : Cursor) (n : ℕ) → octet_count_at bound c ≡ Ok (n, d) → IsOk (octets_at bound c)
octets_there bound c d n h = rw (octets_counted bound c d n h) refl

pub octets_uncounted : (bound : ℕ) (c : Cursor) (e : CdrFault) → octet_count_at bound c ≡ Err e → octets_at bound c ≡ Err e
octets_uncounted bound c e h = rw (octets_steps bound c, h) refl

abbrev counted_text : ℕ × Cursor → Reading (List ℕ)
counted_text n = Ok (take (n.0 - 1) n.1.rest, skip n.0 n.1)

string_by_count : (bound : ℕ) (c : Cursor) (r : Reading ℕ)
    → ((r >>= λ n. if not (is_text (take n.0 n.1.rest)) then Err (fault (place 4 c) BadString)
    else if passes bound (n.0 - 1) then Err (fault (place 4 c) BoundPassed) else Ok n) >>= counted_text)
    ≡ (r >>= λ n. if not (is_text (take n.0 n.1.rest)) then Err (fault (place 4 c) BadString)
    else if passes bound (n.0 - 1) then Err (fault (place 4 c) BoundPassed) else counted_text n)
string_by_count bound c (Ok n) = rw (test_then (not (is_text (take n.0 n.1.rest))) (fault (place 4 c) BadString)
    (if passes bound (n.0 - 1) then Err (fault (place 4 c) BoundPassed) else Ok n) counted_text)
    (rw (test_then (passes bound (n.0 - 1)) (fault (place 4 c) BoundPassed) (Ok n) counted_text) refl)
string_by_count bound c (Err e) = refl

string_steps : (bound : ℕ) (c : Cursor) → string_at bound c ≡ (text_count_at bound c >>= counted_text)
unfolding string_at text_count_at
string_steps bound c = sym (string_by_count bound c (count_at c))

-- the text whose length was counted
pub text_counted : (bound : ℕ) (c d : Cursor) (n : ℕ) → text_count_at bound c ≡ Ok (n, d) → string_at bound c ≡ Ok (take (n - 1) d.rest, skip n d)
text_counted bound c d n h = rw (string_steps bound c, h) refl

pub text_passed : (bound : ℕ) (c d : Cursor) (n : ℕ) → text_count_at bound c ≡ Ok (n, d) → past (string_at bound c) ≡ Ok (skip n d)
text_passed bound c d n h = rw (text_counted bound c d n h) refl

pub text_there : (bound : ℕ) (c d : Cursor) (n : ℕ) → text_count_at bound c ≡ Ok (n, d) → IsOk (string_at bound c)
text_there bound c d n h = rw (text_counted bound c d n h) refl

pub text_uncounted : (bound : ℕ) (c : Cursor) (e : CdrFault) → text_count_at bound c ≡ Err e → string_at bound c ≡ Err e
text_uncounted bound c e h = rw (string_steps bound c, h) refl
