-- What is written of a value is read back.
use Rattle.std.proofs.Common.{◌≡◌, ℕ, ℤ, suc, ◌+◌, ◌<◌, ◌^◌, Bool, true, false, if◌then◌else◌, List, [], ◌∷◌, ◌++◌, length, refl, subst, append_assoc, length-append, add-one, arith}
use Rattle.std.specs.Int.{Width, w8, w32, byte_len, cast_unsigned}
use Rattle.std.specs.Prelude.{FitsSigned}
use mir.Val.{bits}
use Rattle.giop_cdr.specs.Reading.Cursor.{Cursor}
use Rattle.giop_cdr.specs.Reading.Values.{Reading, number_at, signed_at, boolean_at, octets_at, string_at, has_null}
use Rattle.giop_cdr.specs.Spelling.{Spelling, SpellsNumber, SpellsSigned, SpellsBoolean, SpellsOctets, SpellsString}
use Rattle.giop_cdr.specs.Reading.Exactness.{Took, Refusal, RefusedShort, RefusedBoolean, RefusedOctets, RefusedString, IsExact}
use Rattle.giop_cdr.specs.Writing.Output.{Output, number_out, signed_out, octets_out, string_out}
use Rattle.giop_cdr.specs.RoundTrip.{IsReadBack, is_primitive}
use Rattle.giop_cdr.proofs.Spelling.FieldSpelling.{number_exact, signed_exact}
use Rattle.giop_cdr.proofs.Spelling.CountSpelling.{octets_exact}
use Rattle.giop_cdr.proofs.Spelling.TextSpelling.{string_exact}
use Rattle.giop_cdr.proofs.Spelling.BooleanSpelling.{boolean_exact, octet_is}
use Rattle.giop_cdr.proofs.Spelling.Composing.{unbounded_exact}
use Rattle.giop_cdr.proofs.Writing.WrittenNumbers.{written, spells_written, spells_written_signed}

-- octets that spell a value, behind what was there, are read back
pub spelled_is_read_back : {A : Type 0} (P : Spelling A) (R : Refusal) (read : Cursor → Reading A) → IsExact (Took P) R read
    → (v : A) (out done : Output) (part : List ℕ) → done.octets ≡ out.octets ++ part → done.order ≡ out.order → done.at ≡ out.at + length part
    → P out.order out.at v part → IsReadBack P read v out done
spelled_is_read_back P R read exact v out done part octets order at spells = record {
  part = part;
  octets = octets;
  order = order;
  at = at;
  spells = spells;
  back =
      λ behind. (exact (record { order = out.order; at = out.at; rest = part ++ behind })).only v (record { order = done.order; at = done.at; rest = behind })
      (record { octets = part; front = refl; at = at; order = order; spells = spells });
}

pub number_back : (w : Width) (n : ℕ) (out : Output) → is_primitive w ≡ true → n < 2 ^ bits w
    → IsReadBack (SpellsNumber w) (number_at w) n out (number_out w n out)
unfolding number_out
number_back w n out is fits = spelled_is_read_back (SpellsNumber w) (RefusedShort (byte_len w)) (number_at w) (number_exact w) n out (number_out w n out)
    (written out.order out.at w n) refl refl refl (spells_written w n out.order out.at is fits)

pub signed_back : (w : Width) (z : ℤ) (out : Output) → is_primitive w ≡ true → FitsSigned w z
    → IsReadBack (SpellsSigned w) (signed_at w) z out (signed_out w z out)
unfolding signed_out number_out
signed_back w z out is fits = spelled_is_read_back (SpellsSigned w) (RefusedShort (byte_len w)) (signed_at w) (signed_exact w) z out (signed_out w z out)
    (written out.order out.at w (cast_unsigned w z)) refl refl refl (spells_written_signed w z out.order out.at is fits)

pub octets_back : (octets : List ℕ) (out : Output) → length octets < 2 ^ 32 → IsReadBack SpellsOctets (octets_at 0) octets out (octets_out octets out)
unfolding octets_out number_out
octets_back octets out fits =
    let count : List ℕ = written out.order out.at w32 (length octets) in
    spelled_is_read_back SpellsOctets (RefusedOctets 0) (octets_at 0) (unbounded_exact SpellsOctets (RefusedOctets 0) (octets_at 0) (octets_exact 0)) octets out
    (octets_out octets out) (count ++ octets) (append_assoc out.octets count octets) refl (omega (arith, length-append count octets))
    (record {
      first = length octets;
      front = count;
      back = octets;
      whole = refl;
      spells_front = spells_written w32 (length octets) out.order out.at refl fits;
      spells_back = (refl, refl);
    })

pub string_back : (text : List ℕ) (out : Output) → has_null text ≡ false → length text + 1 < 2 ^ 32
    → IsReadBack SpellsString (string_at 0) text out (string_out text out)
unfolding string_out number_out
string_back text out clean fits =
    let count : List ℕ = written out.order out.at w32 (length text + 1) in
    let spelled : SpellsNumber w32 out.order out.at (suc (length text)) count
    = subst (λ (n : ℕ). SpellsNumber w32 out.order out.at n count) (add-one (length text)) (spells_written w32 (length text + 1) out.order out.at refl fits) in
    spelled_is_read_back SpellsString (RefusedString 0) (string_at 0) (unbounded_exact SpellsString (RefusedString 0) (string_at 0) (string_exact 0)) text out
    (string_out text out) (count ++ (text ++ 0 ∷ [])) (append_assoc out.octets count (text ++ 0 ∷ [])) refl
    (omega (arith, length-append count (text ++ 0 ∷ [])))
    (record { first = suc (length text); front = count; back = text ++ 0 ∷ []; whole = refl; spells_front = spelled; spells_back = (refl, refl, clean) })

pub boolean_back : (v : Bool) (out : Output) → IsReadBack SpellsBoolean boolean_at v out (number_out w8 (if v then 1 else 0) out)
unfolding number_out
boolean_back v out = spelled_is_read_back SpellsBoolean RefusedBoolean boolean_at boolean_exact v out (number_out w8 (if v then 1 else 0) out)
    (written out.order out.at w8 (if v then 1 else 0)) refl refl refl
    (octet_is out.order out.at (if v then 1 else 0) (written out.order out.at w8 (if v then 1 else 0))
    (spells_written w8 (if v then 1 else 0) out.order out.at refl (small v)))
  where
    small : (v : Bool) → (if v then 1 else 0) < 2 ^ bits w8
    small true = omega arith
    small false = omega arith
