-- Escaped and hexadecimal octets, as the crates that write them say them.
use Rattle.std.proofs.Common.{◌≡◌, ℕ, ◌<◌, ◌≤◌, ◌==◌, Bool, true, false, not, ◌&&◌, List, [], ◌∷◌, ◌++◌, length, refl, ap, ◌∙◌, if◌then◌else◌, arith, inl, inr, leb, ◌/◌, ◌%◌, slice_index, ltb, codes}
use Rattle.std.specs.List.{flat_map}
use Rattle.std.proofs.lemmas.Bool.{agree_below_at, cases_lt, lt-ltb, le-ltb, ltb-true}
use Rattle.std.proofs.lemmas.Bool.Decides.{nat_tests}
use Rattle.std.proofs.lemmas.List.Elements.{All-weaker}
use Rattle.std.proofs.lemmas.List.Sums.{AllPass-from_list_all}
use Rattle.std.proofs.lemmas.Str.Ascii.{IsAscii-from_all}
use Rattle.std.specs.Str.{IsAscii}
use Rattle.percent_encoding.specs.AsciiSet.{contains, should_percent_encode}
use Rattle.percent_encoding.specs.Percent.{percent_encode, percent_encode_byte, encode_byte}
use Rattle.hex.specs.Hex.{encode_with, encode_lower, lower_digits}
use Rattle.hex.proofs.HexLemmas.{IsAscii-encode_with}
use Rattle.giop_lines.specs.declared.octets.TheConstants.{ESCAPED}
use Rattle.giop_lines.specs.Octets.{is_plain, escaped_octet, escaped_text, hex_text}

-- the set and the definition escape the same ASCII octets
escapes_same : (b : ℕ) → b < 128 → contains ESCAPED b ≡ not (is_plain b)
escapes_same b below = agree_below_at (contains ESCAPED) (λ n. not (is_plain n)) 128 b refl below

lt-leb-false : (b : ℕ) → 128 ≤ b → leb b 126 ≡ false
lt-leb-false b above = grind (arith, nat_tests)

not_plain : (p q : Bool) → true ≡ not (p && false && q)
not_plain true q = refl
not_plain false q = refl

-- an octet is escaped where it doesn't stand for itself
escapes : (b : ℕ) → should_percent_encode ESCAPED b ≡ not (is_plain b)
unfolding should_percent_encode
escapes b = elim (cases_lt b 128) as (λ _. should_percent_encode ESCAPED b ≡ not (is_plain b)) [
  | inl h ↦ rw (lt-ltb b 128 h) (escapes_same b h)
  | inr h ↦ let above : leb b 126 ≡ false = lt-leb-false b h in rw (le-ltb b 128 h, above) (not_plain (leb 33 b) (not (b == 0x25)))
]

either : (p : Bool) (xs ys : List ℕ) → (if not p then xs else ys) ≡ (if p then ys else xs)
either true xs ys = refl
either false xs ys = refl

encode_same : (b : ℕ) → encode_byte ESCAPED b ≡ escaped_octet b
encode_same b = rw (escapes b) (either (is_plain b) (percent_encode_byte b) (b ∷ []))

encodes_same : (bs : List ℕ) → flat_map (encode_byte ESCAPED) bs ≡ flat_map escaped_octet bs
encodes_same [] = refl
encodes_same (b ∷ bs) =
    ap (λ u. u ++ flat_map (encode_byte ESCAPED) bs) (encode_same b) ∙ ap (λ u. escaped_octet b ++ u) (encodes_same bs)

-- octets, one at least, as the crate percent_encoding escapes them
pub percent_encode-escaped : (bs : List ℕ) → (length bs == 0) ≡ false → percent_encode ESCAPED bs ≡ escaped_text bs
unfolding percent_encode
percent_encode-escaped [] some = let wrong : true ≡ false = some in cc
percent_encode-escaped (b ∷ bs) some = encodes_same (b ∷ bs)

-- octets, one at least, in hexadecimal
pub encode_lower-some : (bs : List ℕ) → (length bs == 0) ≡ false → encode_lower bs ≡ hex_text bs
encode_lower-some [] some = let wrong : true ≡ false = some in cc
encode_lower-some (b ∷ bs) some = refl

pub encode_lower-append : (xs ys : List ℕ) → encode_lower (xs ++ ys) ≡ encode_lower xs ++ encode_lower ys
unfolding encode_with
encode_lower-append [] ys = refl
encode_lower-append (x ∷ xs) ys =
    ap (λ u. slice_index lower_digits (x / 16) ∷ slice_index lower_digits (x % 16) ∷ u) (encode_lower-append xs ys)

ascii_digits : IsAscii lower_digits
ascii_digits =
    IsAscii-from_all lower_digits
    (All-weaker (λ b. ltb b 128 ≡ true) (λ b. b < 128) (λ b h. ltb-true b 128 h) lower_digits (AllPass-from_list_all (λ b. ltb b 128) lower_digits refl))

pub IsAscii-encode_lower : (bs : List ℕ) → IsAscii (encode_lower bs)
IsAscii-encode_lower bs = IsAscii-encode_with lower_digits bs ascii_digits

pub IsAscii-ior : IsAscii (codes "IOR:")
IsAscii-ior =
    IsAscii-from_all (codes "IOR:")
    (All-weaker (λ b. ltb b 128 ≡ true) (λ b. b < 128) (λ b h. ltb-true b 128 h) (codes "IOR:")
    (AllPass-from_list_all (λ b. ltb b 128) (codes "IOR:") refl))
