-- The leaves of values that are written as JSON are read back: texts, names, numbers and discriminants.
use Rattle.std.proofs.Common.{◌≡◌, ◌<◌, ◌≤◌, ◌^◌, ◌-◌, ℕ, zero, suc, ℤ, pos, negsuc, nat_lt}
use Rattle.std.proofs.Common.{Bool, true, false, bytes_eq, min, int_le, int_lt, if◌then◌else◌}
use Rattle.std.proofs.Common.{List, [], ◌∷◌, length, get_or, Some, refl, ap, ◌∙◌, arith}
use Rattle.std.proofs.lemmas.Bool.{lt-ltb, ltb-true, leb-true, le-leb, and_parts, and_from, or_parts, both_ways, false_from_ne_true}
use Rattle.std.proofs.lemmas.Str.{chars-encodes, encodes_same}
use Rattle.std.proofs.lemmas.Option.{slice_get-get_or}
use Rattle.std.specs.Cmp.Lexicographic.{bytes_decides}
use Rattle.std.specs.List.{list_any, slice_get}
use Rattle.serde_json.specs.Data as json
use Rattle.std.specs.Fmt.{signed_decimal}
use lib.Utf8.{scalars, scalar, low_scalar}
use Rattle.hex.specs.Hex.{IsBytes}
use Rattle.giop_types.specs.Descriptions.Shape.{Shape, boolean, char, short, ushort, long, ulong, longlong, ulonglong}
use Rattle.giop_types.specs.Descriptions.Shape.{octet, text, octets, labels, members, choice, items, row}
use Rattle.giop_types.specs.Descriptions.Checked.{same_name, has_doubled, is_between, is_label_of}
use Rattle.giop_types.specs.Values.Fits.{are_octets, is_unsigned, fits_label}
use Rattle.giop_json.specs.JsonText.{text_of, octets_of_chars, octets_in}
use Rattle.giop_json.specs.ToJson.{name_data, is_safe, number_data, integer_data, whole_data, label_data, text_data}
use Rattle.giop_json.specs.FromJson.{ordinal_in, ordinal_shown, whole, label_shown, char_shown}
use Rattle.std.proofs.lemmas.Bool.{false≢true}
use Rattle.giop_json.specs.declared.number_form.NumberForm.{NumberForm}
use Rattle.giop_json.specs.declared.number_form.NumberForm.TheVariants.{Plain, Quoted}
use Rattle.giop_json.proofs.NumberTextLemmas.{whole_told_back}

-- ---- texts

octets_scalars : (t : List ℕ) → are_octets t ≡ true → scalars t ≡ true
octets_scalars [] h = refl
octets_scalars (o ∷ t) h =
    let parts = and_parts (is_unsigned 8 o) (are_octets t) h in
    let small : o < 2 ^ 8 = ltb-true o (2 ^ 8) parts.0 in
    and_from (scalar o) (scalars t) (low_scalar o (omega arith)) (octets_scalars t parts.1)

octets_back : (t : List ℕ) → are_octets t ≡ true → octets_of_chars t ≡ Some t
octets_back [] h = refl
octets_back (o ∷ t) h =
    let parts = and_parts (is_unsigned 8 o) (are_octets t) h in
    rw (parts.0, octets_back t parts.1) refl

pub text_back : (t : List ℕ) → are_octets t ≡ true → octets_in (text_of t) ≡ Some t
text_back t h = ap octets_of_chars (chars-encodes t (octets_scalars t h)) ∙ octets_back t h

pub char_back : (n : ℕ) → is_unsigned 8 n ≡ true → char_shown (text_data (n ∷ [])) ≡ Some n
char_back n h = rw (text_back (n ∷ []) (and_from (is_unsigned 8 n) true h refl)) refl

pub octets_are_bytes : (t : List ℕ) → are_octets t ≡ true → IsBytes t
octets_are_bytes [] h i = omega arith
octets_are_bytes (o ∷ t) h zero = ltb-true o (2 ^ 8) (and_parts (is_unsigned 8 o) (are_octets t) h).0
octets_are_bytes (o ∷ t) h (suc i) = octets_are_bytes t (and_parts (is_unsigned 8 o) (are_octets t) h).1 i

-- ---- names

same_text : (t : List ℕ) → bytes_eq t t ≡ true
same_text t = (bytes_decides t t).1 refl

differ_texts : (a b : List ℕ) → (a ≡ b → ⊥) → bytes_eq (text_of a) (text_of b) ≡ false
differ_texts a b differ = false_from_ne_true (bytes_eq (text_of a) (text_of b)) (λ e. differ (encodes_same a b ((bytes_decides (text_of a) (text_of b)).0 e)))

-- an item of a list of which none has this name
pub absent_differs : (names : List (List ℕ)) (k : ℕ) (name m : List ℕ) → list_any (λ y. same_name y m) names ≡ false → slice_get names k ≡ Some name → m ≡ name
    → ⊥
absent_differs [] k name m none is same = absurd cc
absent_differs (x ∷ xs) zero name m none is same =
    let parts = or_parts (same_name x m) (list_any (λ y. same_name y m) xs) none in
    let x-is : x ≡ m = cc in
    both_ways (same_name x m) parts.0 ((bytes_decides x m).1 x-is)
absent_differs (x ∷ xs) (suc k) name m none is same =
    absent_differs xs k name m (or_parts (same_name x m) (list_any (λ y. same_name y m) xs) none).1 is same

ordinal_back : (names : List (List ℕ)) (n : ℕ) (name : List ℕ) → has_doubled same_name names ≡ false → slice_get names n ≡ Some name
    → ordinal_in (text_of name) names ≡ n
ordinal_back [] n name apart is = absurd cc
ordinal_back (m ∷ ms) zero name apart is =
    let same : m ≡ name = cc in
    rw (same, same_text (text_of name)) refl
ordinal_back (m ∷ ms) (suc k) name apart is =
    let parts = or_parts (list_any (λ y. same_name y m) ms) (has_doubled same_name ms) apart in
    rw (differ_texts m name (absent_differs ms k name m parts.0 is), ordinal_back ms k name parts.1 is) (omega arith)

pub name_back : (names : List (List ℕ)) (n : ℕ) → has_doubled same_name names ≡ false → nat_lt n (length names) ≡ true
    → ordinal_shown names (name_data names n) ≡ Some n
name_back names n apart lt =
    let is = slice_get-get_or names n [] (ltb-true n (length names) lt) in
    rw (is, ordinal_back names n (get_or names n []) apart is, lt) refl

-- ---- numbers and discriminants

plain_back : (z : ℤ) → whole (integer_data z) ≡ Some z
plain_back (pos n) = refl
plain_back (negsuc n) = refl

-- a number of 64 bits at most
abbrev IsWide : ℤ → Type 0
IsWide z = is_between (negsuc (2 ^ 63 - 1)) (pos (2 ^ 64 - 1)) z ≡ true

either_back : (safe : Bool) (z : ℤ) → IsWide z → whole (if safe then integer_data z else json.string (signed_decimal z)) ≡ Some z
either_back true z h = plain_back z
either_back false z h = whole_told_back z h

number_back : (numbers : NumberForm) (z : ℤ) → IsWide z → whole (number_data numbers z) ≡ Some z
number_back Plain z h = plain_back z
number_back Quoted z h = either_back (is_safe z) z h

-- the names of an enum, which no two are the same of
abbrev pub AreApart : Shape → Type 0
AreApart (labels names) = has_doubled same_name names ≡ false
AreApart _ = Unit {0}

-- the form of numbers
module _ (numbers : NumberForm) where
  whole_back : (z : ℤ) → IsWide z → whole (whole_data numbers z) ≡ Some z
  whole_back z h = rw h (number_back numbers z h)

  pub natural_back : (k : ℕ) → k ≤ 2 ^ 64 - 1 → (z : ℤ) → is_between (pos 0) (pos k) z ≡ true → whole (whole_data numbers z) ≡ Some z
  natural_back k few (pos n) h =
      let le : n ≤ k = leb-true n k (and_parts (int_le (pos 0) (pos n)) (int_le (pos n) (pos k)) h).1 in
      whole_back (pos n) (le-leb n (2 ^ 64 - 1) (omega arith))
  natural_back k few (negsuc n) h = absurd cc

  pub signed_back : (k : ℕ) → k ≤ 2 ^ 63 - 1 → (z : ℤ) → is_between (negsuc k) (pos k) z ≡ true → whole (whole_data numbers z) ≡ Some z
  signed_back k few (pos n) h =
      let le : n ≤ k = leb-true n k (and_parts (int_le (negsuc k) (pos n)) (int_le (pos n) (pos k)) h).1 in
      whole_back (pos n) (le-leb n (2 ^ 64 - 1) (omega arith))
  signed_back k few (negsuc n) h =
      let le : n ≤ k = leb-true n k (and_parts (int_le (negsuc k) (negsuc n)) (int_le (negsuc n) (pos k)) h).0 in
      whole_back (negsuc n) (and_from (int_le (negsuc (2 ^ 63 - 1)) (negsuc n)) (int_le (negsuc n) (pos (2 ^ 64 - 1)))
      (le-leb n (2 ^ 63 - 1) (omega arith)) refl)

  boolean_back : (z : ℤ) → is_label_of boolean z ≡ true → label_shown boolean (label_data numbers boolean z) ≡ Some z
  boolean_back (pos zero) h = refl
  boolean_back (pos (suc zero)) h = refl
  boolean_back (pos (suc (suc n))) h =
      let le : suc (suc n) ≤ 1 = leb-true (suc (suc n)) 1 (and_parts (int_le (pos 0) (pos (suc (suc n)))) (int_le (pos (suc (suc n))) (pos 1)) h).1 in
      absurd (omega arith)
  boolean_back (negsuc n) h = absurd cc

  char_label_back : (z : ℤ) → is_label_of char z ≡ true → label_shown char (label_data numbers char z) ≡ Some z
  char_label_back (pos n) h =
      let le : n ≤ 2 ^ 8 - 1 = leb-true n (2 ^ 8 - 1) (and_parts (int_le (pos 0) (pos n)) (int_le (pos n) (pos (2 ^ 8 - 1))) h).1 in
      let small : nat_lt n (2 ^ 8) ≡ true = lt-ltb n (2 ^ 8) (omega arith) in
      rw (small, char_back n small) refl
  char_label_back (negsuc n) h = absurd cc

  names_label_back : (names : List (List ℕ)) (z : ℤ) → has_doubled same_name names ≡ false → fits_label (labels names) z ≡ true
      → label_shown (labels names) (label_data numbers (labels names) z) ≡ Some z
  names_label_back names (pos n) apart h =
      let lt : n < min (length names) (2 ^ 32) = ltb-true n (min (length names) (2 ^ 32))
      (and_parts (int_le (pos 0) (pos n)) (int_lt (pos n) (pos (min (length names) (2 ^ 32)))) h).1 in
      let small : nat_lt n (2 ^ 32) ≡ true = lt-ltb n (2 ^ 32) (omega arith) in
      let named : nat_lt n (length names) ≡ true = lt-ltb n (length names) (omega arith) in
      rw (small, name_back names n apart named) refl
  names_label_back names (negsuc n) apart h = absurd cc

  pub label_back : (disc : Shape) (z : ℤ) → AreApart disc → fits_label disc z ≡ true → label_shown disc (label_data numbers disc z) ≡ Some z
  label_back boolean z apart h = boolean_back z h
  label_back char z apart h = char_label_back z h
  label_back short z apart h = signed_back 32767 (omega arith) z h
  label_back ushort z apart h = natural_back 65535 (omega arith) z h
  label_back long z apart h = signed_back 2147483647 (omega arith) z h
  label_back ulong z apart h = natural_back 4294967295 (omega arith) z h
  label_back longlong z apart h = signed_back 9223372036854775807 (omega arith) z h
  label_back ulonglong z apart h = natural_back 18446744073709551615 (omega arith) z h
  label_back (labels names) z apart h = names_label_back names z apart h
  label_back octet z apart h = absurd (false≢true h)
  label_back (text n) z apart h = absurd (false≢true h)
  label_back (octets n) z apart h = absurd (false≢true h)
  label_back (members fs) z apart h = absurd (false≢true h)
  label_back (choice d bs o) z apart h = absurd (false≢true h)
  label_back (items t n) z apart h = absurd (false≢true h)
  label_back (row t n) z apart h = absurd (false≢true h)
