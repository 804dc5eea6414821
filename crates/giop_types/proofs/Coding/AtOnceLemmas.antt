-- Longs that are read and written at once are those that are read and written one after the other.
use Rattle.std.proofs.Common.{◌≡◌, ℕ, zero, suc, ℤ, Ok, Err, List, [], ◌∷◌, map, length, refl}
use Rattle.std.proofs.lemmas.List.{length-map}
use Rattle.std.specs.Int.{w32}
use Rattle.giop_cdr.specs.Reading.Cursor.{Cursor}
use Rattle.giop_cdr.specs.Reading.Values.{Reading, ◌>>=◌, count_at, items_at, sequence_at, signed_at}
use Rattle.giop_cdr.specs.Writing.Output.{Output, items_out, number_out, sequence_out, signed_out}
use Rattle.giop_types.specs.Coding.AtOnce.{items_of_longs}
use Rattle.giop_types.specs.Coding.Decoding.{as_read, bounded_at, decode_at}
use Rattle.giop_types.specs.Coding.Written.{value_out}
use Rattle.giop_types.specs.Descriptions.Shape.{items, long}
use Rattle.giop_types.specs.Values.Tree.{items_of, long_of}
use Rattle.giop_types.specs.Values.Views.{trees_of}
use Rattle.giop_types.proofs.Values.FitLemmas.{list_back}

with_others : (z : ℤ) (r : Reading (List ℤ)) → (as_read (map long_of) r >>= λ others. Ok (long_of z ∷ others.0, others.1))
    ≡ as_read (map long_of) (r >>= λ others. Ok (z ∷ others.0, others.1))
with_others z (Ok x) = refl
with_others z (Err e) = refl

first_then : (n : ℕ) (r : Reading ℤ) → ((c : Cursor) → items_at (decode_at long) n c ≡ as_read (map long_of) (items_at (signed_at w32) n c)) →
    (as_read long_of r >>= λ first. items_at (decode_at long) n first.1 >>= λ others. Ok (first.0 ∷ others.0, others.1))
    ≡ as_read (map long_of) (r >>= λ first. items_at (signed_at w32) n first.1 >>= λ others. Ok (first.0 ∷ others.0, others.1))
first_then n (Ok x) same = rw (same x.1) (with_others x.0 (items_at (signed_at w32) n x.1))
first_then n (Err e) same = refl

longs_read : (n : ℕ) (c : Cursor) → items_at (decode_at long) n c ≡ as_read (map long_of) (items_at (signed_at w32) n c)
unfolding items_at decode_at
longs_read zero c = refl
longs_read (suc n) c = first_then n (signed_at w32 c) (longs_read n)

read_twice : (r : Reading (List ℤ)) → as_read (λ ts. items_of (trees_of ts)) (as_read (map long_of) r) ≡ as_read items_of_longs r
read_twice (Ok x) = refl
read_twice (Err e) = refl

counted_longs : (r : Reading ℕ) → as_read (λ ts. items_of (trees_of ts)) (r >>= λ n. items_at (decode_at long) n.0 n.1)
    ≡ as_read items_of_longs (r >>= λ n. items_at (signed_at w32) n.0 n.1)
counted_longs (Ok x) = rw (longs_read x.0 x.1) (read_twice (items_at (signed_at w32) x.0 x.1))
counted_longs (Err e) = refl

pub read_at_once : (at : Cursor) → decode_at (items long 0) at ≡ as_read items_of_longs (sequence_at (signed_at w32) at)
unfolding decode_at bounded_at sequence_at
read_at_once at = counted_longs (count_at at)

longs_out : (longs : List ℤ) (out : Output) → items_out (value_out long) (map long_of longs) out ≡ items_out (signed_out w32) longs out
unfolding items_out value_out
longs_out [] out = refl
longs_out (z ∷ longs) out = longs_out longs (signed_out w32 z out)

pub written_at_once : (longs : List ℤ) (out : Output) → value_out (items long 0) (items_of_longs longs) out ≡ sequence_out (signed_out w32) longs out
unfolding value_out sequence_out
written_at_once longs out =
    rw (list_back (map long_of longs), length-map longs long_of) (longs_out longs (number_out w32 (length longs) out))
