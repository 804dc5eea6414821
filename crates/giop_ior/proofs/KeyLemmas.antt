-- The octets of a key, as the crate that escapes them says them.
use Rattle.std.proofs.Common.{◌≡◌, ℕ, ◌<◌, ◌≤◌, false, not, refl, arith, inl, inr}
use Rattle.std.proofs.lemmas.Bool.{agree_below_at, cases_lt, lt-ltb, le-ltb}
use Rattle.std.proofs.lemmas.Bool.Decides.{nat_tests}
use Rattle.percent_encoding.specs.AsciiSet.{contains, should_percent_encode}
use Rattle.giop_ior.specs.declared.addresses.key_text.TheConstants.{ESCAPED}
use Rattle.giop_ior.specs.Corbaloc.{is_key_octet}

-- the set and the definition keep the same ASCII octets
keeps_same : (b : ℕ) → b < 128 → not (contains ESCAPED b) ≡ is_key_octet b
keeps_same b below = agree_below_at (λ n. not (contains ESCAPED n)) is_key_octet 128 b refl below

-- and no other
above_ascii : (b : ℕ) → 128 ≤ b → is_key_octet b ≡ false
above_ascii b above = grind (arith, nat_tests)

-- an octet is kept where it stands for itself
pub keeps : (b : ℕ) → not (should_percent_encode ESCAPED b) ≡ is_key_octet b
unfolding should_percent_encode
keeps b = elim (cases_lt b 128) as (λ _. not (should_percent_encode ESCAPED b) ≡ is_key_octet b) [
  | inl h ↦ rw (lt-ltb b 128 h) (keeps_same b h)
  | inr h ↦ rw (le-ltb b 128 h, above_ascii b h) refl
]
