-- Sequences of longs, written at once.
use Rattle.std.proofs.Common.{◌≡◌, ℕ, ℤ, ◌+◌, ◌%◌, List, [], ◌∷◌, ◌++◌, length, refl, ap, ◌∙◌, append_assoc, append-nil, length-append, add-zero, arith}
use Rattle.std.proofs.lemmas.List.{length-replicate}
use Rattle.std.specs.Prelude.{replicate}
use Rattle.std.specs.Int.{w32, cast_unsigned}
use Rattle.giop_cdr.specs.Longs.{long_octets, longs_octets}
use Rattle.giop_cdr.specs.Reading.Cursor.{pad}
use Rattle.giop_cdr.specs.Writing.Output.{Output, aligned, append, items_out, number_out, octets_of, sequence_out, signed_out}
use Rattle.giop_cdr.proofs.Writing.WrittenNumbers.{length-octets_of}

append_twice : (out : Output) (one two : List ℕ) → append (append out one) two ≡ append out (one ++ two)
append_twice out one two =
    let at : out.at + length one + length two ≡ out.at + length (one ++ two) = omega (arith, length-append one two) in
    rw (at, append_assoc) refl

append_nothing : (out : Output) → out ≡ append out []
append_nothing out = rw (add-zero, append-nil) refl

-- a long where none needs padding
long_written : (z : ℤ) (out : Output) → out.at % 4 ≡ 0 → signed_out w32 z out ≡ append out (long_octets out.order z)
unfolding signed_out number_out
long_written z out at =
    let none : pad 4 out.at ≡ 0 = omega arith in
    rw none refl

longs_behind : (zs : List ℤ) (out : Output) → out.at % 4 ≡ 0 → items_out (signed_out w32) zs out ≡ append out (longs_octets out.order zs)
unfolding items_out
longs_behind [] out at = append_nothing out
longs_behind (z ∷ zs) out at =
    let one = long_octets out.order z in
    let long = length-octets_of out.order w32 (cast_unsigned w32 z) in
    ap (items_out (signed_out w32) zs) (long_written z out at)
    ∙ longs_behind zs (append out one) (omega (arith, long))
    ∙ append_twice out one (longs_octets out.order zs)

-- a sequence of longs is its count and then the longs
pub longs_written : (out : Output) (zs : List ℤ) → sequence_out (signed_out w32) zs out
    ≡ append (append out (aligned 4 out (octets_of out.order w32 (length zs)))) (longs_octets out.order zs)
unfolding sequence_out number_out
longs_written out zs =
    let count = octets_of out.order w32 (length zs) in
    let long : length (aligned 4 out count) ≡ pad 4 out.at + 4 =
    length-append (replicate (pad 4 out.at) 0) count ∙ rw (length-replicate {A = ℕ}, length-octets_of) refl in
    longs_behind zs (append out (aligned 4 out count)) (omega (arith, long))
