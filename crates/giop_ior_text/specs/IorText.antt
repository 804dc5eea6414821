-- The text of a reference (CORBA 3.3 Part 2, 7.6.9): its grammar, from the parts up to the whole,
-- then its reading, which fixes the faults, and its writing. Texts are octets.
use Rattle.std.specs.Prelude.{◌≡◌, ℕ, ◌+◌, ◌*◌, Bool, true, if◌then◌else◌, List, [], ◌∷◌, ◌++◌, take, drop, map, codes, bytes_eq, Result, Ok, Err}
use Rattle.std.specs.Char.{to_ascii_lowercase, is_digit, digit_value}
use Rattle.hex.specs.declared.error.FromHexError.{FromHexError}
use Rattle.hex.specs.Hex.{decode_of, encode_lower}
use Rattle.giop_cdr.specs.declared.order.Order.TheVariants.{Big}
use Rattle.giop_cdr.specs.Reading.Cursor.{Cursor}
use Rattle.giop_cdr.specs.Encapsulation.OfLayout.{Encapsulates, RefusedInside, inside_at}
use Rattle.giop_cdr.specs.Writing.Output.{Output}
use Rattle.giop_cdr.specs.Reading.Values.{Reading}
use Rattle.giop_cdr.specs.Reading.Exactness.{Refusal}
use Rattle.giop_cdr.specs.Spelling.{Spelling}
use Rattle.giop_ior_text.specs.declared.ior_text_fault.IorTextFault.{IorTextFault}
use Rattle.giop_ior_text.specs.declared.ior_text_fault.IorTextFault.TheVariants.{BadPrefix, BadHex, Cdr, NoMemory}
use Rattle.giop_ior_text.specs.IorTextFault.{TextReading, ◌>>=◌}

-- ---- the grammar

-- prefix = "IOR:", in any case
abbrev pub IsPrefix : List ℕ → Type 0
IsPrefix text = map to_ascii_lowercase text ≡ codes "ior:"

-- octet = 2HEXDIG, the high digit first
pub record OctetText (octet : ℕ) (text : List ℕ) : Type 0 where
  pub high : ℕ
  pub low : ℕ
  pub parts : text ≡ high ∷ low ∷ []
  pub is_high : is_digit high 16 ≡ true
  pub is_low : is_digit low 16 ≡ true
  pub value : octet ≡ 16 * digit_value high + digit_value low

-- octets = *octet
abbrev pub OctetsText : List ℕ → List ℕ → Type 0
OctetsText [] text = text ≡ []
OctetsText (octet ∷ octets) text =
    (first : List ℕ) × (rest : List ℕ) × (text ≡ first ++ rest)
    × OctetText octet first × OctetsText octets rest

-- prefix octets
pub record PrefixedText (octets : List ℕ) (text : List ℕ) : Type 0 where
  pub front : List ℕ
  pub digits : List ℕ
  pub parts : text ≡ front ++ digits
  pub is_prefix : IsPrefix front
  pub are_digits : OctetsText octets digits

-- reference = prefix octets, of which the octets encapsulate the value, whatever stands behind it
pub record IorText {A : Type 0} (P : Spelling A) (v : A) (text : List ℕ) : Type 0 where
  pub octets : List ℕ
  pub says : PrefixedText octets text
  pub holds : Encapsulates P octets v

-- why a text is none: it has no prefix; or what stands behind that is no octets; or these octets
-- are no encapsulation of a value, reported at an offset that counts from the first of them
abbrev pub RefusedText : Refusal → List ℕ → IorTextFault → Type 0
RefusedText R text BadPrefix = (front digits : List ℕ) → text ≡ front ++ digits → IsPrefix front → ⊥
RefusedText R text BadHex =
    ((front : List ℕ) × (digits : List ℕ) × (text ≡ front ++ digits) × IsPrefix front)
    × ((octets : List ℕ) → PrefixedText octets text → ⊥)
RefusedText R text (Cdr e) =
    (octets : List ℕ) × PrefixedText octets text × RefusedInside R 0 octets e
RefusedText R text NoMemory = ⊥

-- ---- reading

-- whether four characters are `IOR:` in any case
abbrev pub is_prefix : List ℕ → Bool
is_prefix text = bytes_eq (map to_ascii_lowercase text) (codes "ior:")

-- the octets of hexadecimal digits: whatever is wrong with them is BadHex
abbrev pub octets_or_fault : Result (List ℕ) FromHexError → TextReading (List ℕ)
octets_or_fault (Ok octets) = Ok octets
octets_or_fault (Err e) = Err BadHex

-- the octets that a text says
unfoldable pub octets_of : List ℕ → TextReading (List ℕ)
octets_of text =
    if is_prefix (take 4 text) then octets_or_fault (decode_of (drop 4 text)) else Err BadPrefix

-- the reader outside of an encapsulation, where there is none
abbrev pub nowhere : Cursor
nowhere = record { order = Big; at = 0; rest = [] }

-- the value that was read, wherever reading ended: a fault of the octets is reported as it is
abbrev pub value_or_fault : {A : Type 0} → Reading A → TextReading A
value_or_fault (Ok v) = Ok v.0
value_or_fault (Err e) = Err (Cdr e)

-- the value that octets encapsulate
unfoldable pub encapsulated : {A : Type 0} → (Cursor → Reading A) → List ℕ → TextReading A
encapsulated read octets = value_or_fault (inside_at read 0 octets nowhere)

-- the value that a text is, or its first fault
unfoldable pub ior_text_of : {A : Type 0} → (Cursor → Reading A) → List ℕ → TextReading A
ior_text_of read text = octets_of text >>= encapsulated read

-- reading returns a value exactly where the text says it, and a fault exactly where it is refused
-- so
pub record ReadsTexts {A : Type 0} (P : Spelling A) (R : Refusal)
    (read : List ℕ → TextReading A) : Type 0 where
  pub found : (text : List ℕ) (v : A) → read text ≡ Ok v → IorText P v text
  pub only : (text : List ℕ) (v : A) → IorText P v text → read text ≡ Ok v
  pub refused : (text : List ℕ) (e : IorTextFault) → read text ≡ Err e → RefusedText R text e
  pub refuses : (text : List ℕ) (e : IorTextFault) → RefusedText R text e → read text ≡ Err e

-- ---- writing

-- an encapsulation that is begun, big-endian
abbrev pub begun : Output
begun = record { order = Big; at = 1; octets = 0 ∷ [] }

-- the text of octets: an upper-case prefix and lower-case digits
abbrev pub prefixed : List ℕ → List ℕ
prefixed octets = codes "IOR:" ++ encode_lower octets

-- the text that is written of a value, big-endian
abbrev pub text_written : {A : Type 0} → (A → Output → Output) → A → List ℕ
text_written written v = prefixed (written v begun).octets
