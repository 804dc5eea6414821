-- Texts of JSON that stand for octets.
use Rattle.std.proofs.Common.{◌≡◌, ℕ, ◌<◌, ◌≤◌, ◌^◌, nat_lt, Bool, true, false, if◌then◌else◌, Option, Some, None}
use Rattle.std.proofs.Common.{option_map, option_and_then, List, ◌∷◌, refl}
use Rattle.std.proofs.lemmas.Bool.{lt-ltb, le-ltb}
use Rattle.giop_types.specs.JsonForms.JsonText.{octets_of_chars}
use Rattle.giop_types.proofs.Coding.PartLoops.{IsEachPart}

abbrev pub octet_of_char : ℕ → Option ℕ
octet_of_char c = if nat_lt c (2 ^ 8) then Some c else None

more_chars : (b : Bool) (c : ℕ) (cs : List ℕ) → (if b then option_map (λ octets. c ∷ octets) (octets_of_chars cs) else None)
    ≡ option_and_then (λ y. option_map (λ ys. y ∷ ys) (octets_of_chars cs)) (if b then Some c else None)
more_chars true c cs = refl
more_chars false c cs = refl

pub octets_of_chars-each : IsEachPart octet_of_char octets_of_chars
octets_of_chars-each = record { none = refl; more = λ c cs. more_chars (nat_lt c (2 ^ 8)) c cs }

pub low_char : (c : ℕ) → c < 2 ^ 8 → octet_of_char c ≡ Some c
low_char c h = rw (lt-ltb c (2 ^ 8) h) refl

pub high_char : (c : ℕ) → 2 ^ 8 ≤ c → octet_of_char c ≡ None
high_char c h = rw (le-ltb c (2 ^ 8) h) refl
