-- The octets of a number are as many as its width has, and are worth the number.
use Rattle.std.proofs.Common.{◌≡◌, ℕ, ℤ, pos, negsuc, ◌<◌, ◌^◌, true, List, ◌++◌, length, refl, sym, ap, ◌∙◌, arith}
use Rattle.std.proofs.lemmas.Nat.{from_be_bytes-to_be_bytes_2, from_be_bytes-to_be_bytes_4, from_be_bytes-to_be_bytes_8, from_le_bytes-to_le_bytes_2, from_le_bytes-to_le_bytes_4, from_le_bytes-to_le_bytes_8}
use Rattle.std.proofs.lemmas.List.{length-replicate}
use Rattle.std.proofs.lemmas.Int.{to_z-of_z}
use Rattle.std.specs.Prelude.{replicate}
use Rattle.std.specs.Int.{Width, w8, w16, w32, w64, w128, byte_len, cast_signed, cast_unsigned}
use Rattle.std.specs.Prelude.{FitsSigned}
use mir.Val.{bits}
use Rattle.giop_cdr.specs.declared.order.Order.{Order}
use Rattle.giop_cdr.specs.declared.order.Order.TheVariants.{Big, Little}
use Rattle.giop_cdr.specs.Reading.Cursor.{num, pad}
use Rattle.giop_cdr.specs.Writing.Output.{octets_of}
use Rattle.giop_cdr.specs.RoundTrip.{is_primitive}
use Rattle.giop_cdr.specs.Spelling.{SpellsNumber, SpellsSigned}

pub length-octets_of : (o : Order) (w : Width) (n : ℕ) → length (octets_of o w n) ≡ byte_len w
length-octets_of Big w8 n = refl
length-octets_of Big w16 n = refl
length-octets_of Big w32 n = refl
length-octets_of Big w64 n = refl
length-octets_of Big w128 n = refl
length-octets_of Little w8 n = refl
length-octets_of Little w16 n = refl
length-octets_of Little w32 n = refl
length-octets_of Little w64 n = refl
length-octets_of Little w128 n = refl

pub num-octets_of : (o : Order) (w : Width) (n : ℕ) → is_primitive w ≡ true → n < 2 ^ bits w → num o w (octets_of o w n) ≡ n
num-octets_of Big w8 n is fits = omega arith
num-octets_of Big w16 n is fits = from_be_bytes-to_be_bytes_2 n fits
num-octets_of Big w32 n is fits = from_be_bytes-to_be_bytes_4 n fits
num-octets_of Big w64 n is fits = from_be_bytes-to_be_bytes_8 n fits
num-octets_of Big w128 n is fits = absurd cc
num-octets_of Little w8 n is fits = omega arith
num-octets_of Little w16 n is fits = from_le_bytes-to_le_bytes_2 n fits
num-octets_of Little w32 n is fits = from_le_bytes-to_le_bytes_4 n fits
num-octets_of Little w64 n is fits = from_le_bytes-to_le_bytes_8 n fits
num-octets_of Little w128 n is fits = absurd cc

-- the written spelling of a number
abbrev pub written : Order → ℕ → Width → ℕ → List ℕ
written o at w n = replicate (pad (byte_len w) at) 0 ++ octets_of o w n

pub spells_written : (w : Width) (n : ℕ) (o : Order) (at : ℕ) → is_primitive w ≡ true → n < 2 ^ bits w → SpellsNumber w o at n (written o at w n)
spells_written w n o at is fits = record {
  pads = replicate (pad (byte_len w) at) 0;
  octets = octets_of o w n;
  padded = length-replicate (pad (byte_len w) at) 0;
  few = length-octets_of o w n;
  whole = refl;
  value = sym (num-octets_of o w n is fits);
}

cast_unsigned-fits : (w : Width) (z : ℤ) → is_primitive w ≡ true → FitsSigned w z → cast_unsigned w z < 2 ^ bits w
cast_unsigned-fits w8 (pos n) is fits = omega (arith, fits.sfits)
cast_unsigned-fits w8 (negsuc n) is fits = omega arith
cast_unsigned-fits w16 (pos n) is fits = omega (arith, fits.sfits)
cast_unsigned-fits w16 (negsuc n) is fits = omega arith
cast_unsigned-fits w32 (pos n) is fits = omega (arith, fits.sfits)
cast_unsigned-fits w32 (negsuc n) is fits = omega arith
cast_unsigned-fits w64 (pos n) is fits = omega (arith, fits.sfits)
cast_unsigned-fits w64 (negsuc n) is fits = omega arith
cast_unsigned-fits w128 z is fits = absurd cc

pub spells_written_signed : (w : Width) (z : ℤ) (o : Order) (at : ℕ) → is_primitive w ≡ true → FitsSigned w z
    → SpellsSigned w o at z (written o at w (cast_unsigned w z))
spells_written_signed w z o at is fits = record {
  pads = replicate (pad (byte_len w) at) 0;
  octets = octets_of o w (cast_unsigned w z);
  padded = length-replicate (pad (byte_len w) at) 0;
  few = length-octets_of o w (cast_unsigned w z);
  whole = refl;
  value = sym (ap (cast_signed w) (num-octets_of o w (cast_unsigned w z) is (cast_unsigned-fits w z is fits)) ∙ to_z-of_z w z fits);
}
