-- Decimal numbers of a few digits.
use Rattle.std.proofs.Common.{◌≡◌, ℕ, ◌+◌, ◌-◌, ◌*◌, ◌^◌, ◌<◌, ◌≤◌, ◌&&◌, Bool, true, false, List, [], ◌∷◌, length, get_or, take, refl, ap, ◌∙◌, arith}
use Rattle.std.specs.Char.{is_ascii_digit, digit_value}
use Rattle.std.specs.List.{list_all}
use Rattle.std.specs.Str.Parse.{digits_value, AllDigits}
use Rattle.std.proofs.lemmas.Bool.Decides.{nat_tests}
use Rattle.std.proofs.Math.Nat.{pow-le-pow_right}
use Rattle.std.proofs.lemmas.Int.Digits.{digits_value-lt, digits_value_more}
use Rattle.std.proofs.lemmas.Str.Parse.{digits_value-take-le}
use Rattle.std.proofs.lemmas.List.Sums.{AllPass-from_list_all}

pub both : (p q : Bool) → (p && q) ≡ true → (p ≡ true) × (q ≡ true)
both true q h = (refl, h)
both false q h = let wrong : false ≡ true = h in cc

digit_is : (c : ℕ) → is_ascii_digit c ≡ true → (digit_value c < 10) × (digit_value c ≡ c - 48) × (48 ≤ c) × (c ≤ 57)
digit_is c h = (grind (arith, nat_tests), grind (arith, nat_tests), grind (arith, nat_tests), grind (arith, nat_tests))

pub all_digits : (text : List ℕ) → list_all is_ascii_digit text ≡ true → AllDigits 10 text
all_digits [] h = tt
all_digits (c ∷ cs) h = let parts = both (is_ascii_digit c) (list_all is_ascii_digit cs) h in ((digit_is c parts.0).0, all_digits cs parts.1)

-- five digits or fewer write less than 100000
pub number_small : (text : List ℕ) (i : ℕ) → list_all is_ascii_digit text ≡ true → length text ≤ 5 → digits_value 10 (take i text) < 100000
number_small text i digits few =
    let power : 10 ^ length text ≤ 10 ^ 5 = pow-le-pow_right {n = 10} (omega arith) few in
    omega (arith, power, digits_value-lt 10 text (all_digits text digits), digits_value-take-le 10 text i (omega arith))

digit_there : (text : List ℕ) (i : ℕ) → list_all is_ascii_digit text ≡ true → i < length text
    → (digit_value (get_or text i 0) < 10) × (digit_value (get_or text i 0) ≡ get_or text i 0 - 48) × (48 ≤ get_or text i 0) × (get_or text i 0 ≤ 57)
digit_there text i digits within = digit_is (get_or text i 0) (AllPass-from_list_all is_ascii_digit text digits i 0 within)

-- each octet is a digit
pub digit_at : (text : List ℕ) (i : ℕ) → list_all is_ascii_digit text ≡ true → i < length text
    → (48 ≤ get_or text i 0) × (get_or text i 0 ≤ 57)
digit_at text i digits within = let digit = digit_there text i digits within in (digit.2, digit.3)

-- one digit more
pub number_more : (text : List ℕ) (i : ℕ) → list_all is_ascii_digit text ≡ true → i < length text
    → digits_value 10 (take (i + 1) text) ≡ digits_value 10 (take i text) * 10 + (get_or text i 0 - 48)
number_more text i digits within =
    digits_value_more 10 text i within ∙ ap (λ d. digits_value 10 (take i text) * 10 + d) (digit_there text i digits within).1
