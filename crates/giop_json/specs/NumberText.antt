-- Whole numbers as texts of JSON, with the characters of a JSON number (RFC 8259, 6).
use Rattle.std.specs.Prelude.{ℕ, ℤ, pos, negsuc, neg_ℤ, ◌^◌, ◌-◌, ◌&&◌, ◌||◌, ◌==◌, nat_lt, nat_le, bytes_eq, Bool}
use Rattle.std.specs.Prelude.{if◌then◌else◌, List, [], ◌∷◌, drop, slice_index, Option, Some, None}
use Rattle.std.specs.Prelude.{option_map, option_and_then}
use Rattle.std.specs.Str.{all_ascii_digits}
use Rattle.std.specs.Str.Parse.{digits_value}

-- the first is above 0, or 0 stands alone
abbrev pub leads : List ℕ → Bool
leads ds = nat_lt 48 (slice_index ds 0) || bytes_eq ds (48 ∷ [])

-- the number of so much at most that digits say
abbrev pub digits_told : ℕ → List ℕ → Option ℕ
digits_told most ds =
    if (all_ascii_digits ds && leads ds) && nat_le (digits_value 10 ds) most
    then Some (digits_value 10 ds) else None

-- a number below 0
abbrev pub if_below_zero : ℤ → Option ℤ
if_below_zero (pos n) = None
if_below_zero (negsuc n) = Some (negsuc n)

-- the number that a text says, where a long long or an unsigned long long holds it
abbrev pub whole_told : List ℕ → Option ℤ
whole_told s =
    if slice_index s 0 == 45
    then option_and_then (λ n. if_below_zero (neg_ℤ (pos n))) (digits_told (2 ^ 63) (drop 1 s))
    else option_map pos (digits_told (2 ^ 64 - 1) s)
