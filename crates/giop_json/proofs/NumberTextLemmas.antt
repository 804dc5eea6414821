-- The text of a whole number says that number, and no other text does.
use Rattle.std.proofs.Common.{◌≡◌, ◌<◌, ◌≤◌, ◌^◌, ◌-◌, ◌==◌, ◌&&◌, ℕ, zero, suc, ℤ, pos, negsuc, nat_le}
use Rattle.std.proofs.Common.{Bool, true, false, if◌then◌else◌, int_le, decimal, slice_index, get_or, List, [], ◌∷◌, take, drop, length}
use Rattle.std.proofs.Common.{Some, None, option_map, option_and_then, Result, Ok, Err, refl, sym, ap, ◌∙◌, arith}
use Rattle.std.specs.Fmt.{signed_decimal}
use Rattle.std.specs.Int.{w64}
use Rattle.std.specs.Result.{result_ok}
use Rattle.std.proofs.lemmas.Bool.{lt-ltb, leb-true, le-leb, eqb-true, and_parts, false≢true}
use Rattle.std.proofs.lemmas.Bool.Decides.{nat_tests}
use Rattle.std.proofs.lemmas.List.{length-drop}
use Rattle.std.proofs.Math.Seq.{take-length}
use Rattle.std.proofs.lemmas.Fmt.{decimal_is_IsNumeral, decimal_digit, decimal_nonempty, first_decimal}
use Rattle.std.proofs.lemmas.Str.Parse.{IsNumeralModel, numerals_by_value, tells_all_ascii_digits, digit_at, parse_plain, parse_signed_minus}
use Rattle.std.specs.Str.{all_ascii_digits}
use Rattle.std.specs.Str.Parse.{digits_value, ParsesUnsigned, ParsesSigned}
use Rattle.giop_types.specs.Descriptions.Checked.{is_between}
use Rattle.giop_json.specs.NumberText.{leads, digits_told, if_below_zero, whole_told}

leads_decimal : (n : ℕ) → n < 2 ^ 64 → leads (decimal n) ≡ true
leads_decimal zero h = rw (decimal_digit 0 (omega arith)) refl
leads_decimal (suc n) h = rw (lt-ltb 48 (slice_index (decimal (suc n)) 0) (first_decimal (suc n) (omega arith) h)) refl

told_back : (most n : ℕ) → n < 2 ^ 64 → n ≤ most → digits_told most (decimal n) ≡ Some n
told_back most n h le =
    let k = decimal_is_IsNumeral n h in
    let all : all_ascii_digits (decimal n) ≡ true = (numerals_by_value _ tells_all_ascii_digits).from (decimal n) k.0.1 in
    rw (all, leads_decimal n h, k.1, le-leb n most le) refl

no_minus : (n : ℕ) → n < 2 ^ 64 → (slice_index (decimal n) 0 == 45) ≡ false
no_minus n h =
    let k = decimal_is_IsNumeral n h in
    let first = digit_at (decimal n) 0 k.0.1 (decimal_nonempty n h) in
    grind (arith, nat_tests)

-- the text of a number of 64 bits says it
pub whole_told_back : (z : ℤ) → is_between (negsuc (2 ^ 63 - 1)) (pos (2 ^ 64 - 1)) z ≡ true → whole_told (signed_decimal z) ≡ Some z
whole_told_back (pos n) h =
    let le : n ≤ 2 ^ 64 - 1 = leb-true n (2 ^ 64 - 1) h in
    rw (no_minus n (omega arith), told_back (2 ^ 64 - 1) n (omega arith) le) refl
whole_told_back (negsuc n) h =
    let le : n ≤ 2 ^ 63 - 1 = leb-true n (2 ^ 63 - 1) (and_parts (int_le (negsuc (2 ^ 63 - 1)) (negsuc n)) (int_le (negsuc n) (pos (2 ^ 64 - 1))) h).0 in
    rw (told_back (2 ^ 63) (suc n) (omega arith) (omega arith)) refl

-- ---- what `parse` answers

-- digits and no sign, in the words of these definitions
own : IsNumeralModel (λ ds. all_ascii_digits ds ≡ true) (digits_value 10)
own = numerals_by_value _ tells_all_ascii_digits

digits_some : (most : ℕ) (ds : List ℕ) → all_ascii_digits ds ≡ true → leads ds ≡ true → digits_value 10 ds ≤ most
    → digits_told most ds ≡ Some (digits_value 10 ds)
digits_some most ds all lead le = rw (all, lead, le-leb (digits_value 10 ds) most le) refl

none_of : (all lead few : Bool) (n : ℕ) → (all ≡ true → few ≡ true → ⊥) → (if (all && lead) && few then Some n else None) ≡ None
none_of true true true n never = absurd (never refl refl)
none_of true true false n never = refl
none_of true false few n never = refl
none_of false lead few n never = refl

digits_none : (most : ℕ) (ds : List ℕ) → leads ds ≡ true → (all_ascii_digits ds ≡ true → 0 < length ds → digits_value 10 ds ≤ most → ⊥)
    → digits_told most ds ≡ None
digits_none most [] lead never = absurd (false≢true lead)
digits_none most (d ∷ ds) lead never =
    none_of (all_ascii_digits (d ∷ ds)) (leads (d ∷ ds)) (nat_le (digits_value 10 (d ∷ ds)) most) (digits_value 10 (d ∷ ds))
    (λ all few. never all (omega arith) (leb-true (digits_value 10 (d ∷ ds)) most few))

not_plus : (ds : List ℕ) → leads ds ≡ true → get_or ds 0 0 ≡ 43 → ⊥
not_plus [] lead is = absurd (false≢true lead)
not_plus (d ∷ ds) lead is = false≢true (rw is at lead)

pub natural_parsed : {E : Type 0} (s : List ℕ) (r : Result ℕ E) → ParsesUnsigned 64 10 s r → (slice_index s 0 == 45) ≡ false → leads s ≡ true
    → whole_told s ≡ option_map pos (result_ok r)
natural_parsed {E} s (Ok n) h minus lead =
    let p = parse_plain own {E = E} 64 s (Ok n) h (not_plus s lead) in
    let fits : digits_value 10 s < 2 ^ 64 = p.0.2 in
    rw (minus, digits_some (2 ^ 64 - 1) s p.0.0 lead (omega arith)) (ap (λ m. Some (pos m)) (sym p.1))
natural_parsed {E} s (Err e) h minus lead =
    let p = parse_plain own {E = E} 64 s (Err e) h (not_plus s lead) in
    rw (minus, digits_none (2 ^ 64 - 1) s lead (λ all some le. p (all, some, omega (arith, le)))) refl

pub negative_parsed : {E : Type 0} (s : List ℕ) (r : Result ℤ E) → ParsesSigned w64 10 s r → (slice_index s 0 == 45) ≡ true → leads (drop 1 s) ≡ true
    → whole_told s ≡ option_and_then if_below_zero (result_ok r)
negative_parsed {E} s (Ok z) h minus lead =
    let p = parse_signed_minus own {E = E} w64 s (Ok z) h (eqb-true (slice_index s 0) 45 minus) in
    rw (minus, digits_some (2 ^ 63) (drop 1 s) p.0.0 lead p.0.2) (ap if_below_zero (sym p.1))
negative_parsed {E} s (Err e) h minus lead =
    let p = parse_signed_minus own {E = E} w64 s (Err e) h (eqb-true (slice_index s 0) 45 minus) in
    rw (minus, digits_none (2 ^ 63) (drop 1 s) lead (λ all some le. p (all, some, le))) refl

-- what stands behind the first octet
pub all_behind : (s : List ℕ) → take (length s - 1) (drop 1 s) ≡ drop 1 s
all_behind s = ap (λ n. take n (drop 1 s)) (sym (length-drop 1 s)) ∙ take-length (drop 1 s)
