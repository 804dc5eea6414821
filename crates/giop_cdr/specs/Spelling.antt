-- Which octets spell which value, from an offset on and in an order (CORBA 3.3 Part 2, 9.3.1,
-- 9.3.2).
use Rattle.std.specs.Prelude.{◌≡◌, ℕ, zero, suc, ◌+◌, ℤ, Bool, true, false, if◌then◌else◌, List, [], ◌∷◌, ◌++◌, length}
use Rattle.std.specs.Int.{Width, w32, byte_len, cast_signed}
use Rattle.giop_cdr.specs.declared.order.Order.{Order}
use Rattle.giop_cdr.specs.Reading.Cursor.{num, pad}
use Rattle.giop_cdr.specs.Reading.Values.{has_null, passes}

-- in this order and from this offset, these octets spell this value
abbrev pub Spelling : Type 0 → Type 1
Spelling A = Order → ℕ → A → List ℕ → Type 0

-- a value of n octets: the fewest octets up to a multiple of n, whatever they are, and those n
-- octets
pub record SpellsField {A : Type 0} (n : ℕ) (meaning : Order → List ℕ → A) (o : Order) (at : ℕ)
    (v : A) (b : List ℕ) : Type 0 where
  pub pads : List ℕ
  pub octets : List ℕ
  pub padded : length pads ≡ pad n at
  pub few : length octets ≡ n
  pub whole : b ≡ pads ++ octets
  pub value : v ≡ meaning o octets

-- an unsigned number of a width
abbrev pub SpellsNumber : Width → Spelling ℕ
SpellsNumber w = SpellsField (byte_len w) (λ o octets. num o w octets)

-- a signed number: two's complement
abbrev pub SpellsSigned : Width → Spelling ℤ
SpellsSigned w = SpellsField (byte_len w) (λ o octets. cast_signed w (num o w octets))

-- a boolean: the octet 1 or 0
abbrev pub SpellsBoolean : Spelling Bool
SpellsBoolean o at v b = b ≡ (if v then 1 else 0) ∷ []

-- one value and then another, whose spelling may rest on the first value
pub record Then {A B : Type 0} (P : Spelling A) (Q : A → Spelling B) (o : Order) (at : ℕ) (v : B)
    (b : List ℕ) : Type 0 where
  pub first : A
  pub front : List ℕ
  pub back : List ℕ
  pub whole : b ≡ front ++ back
  pub spells_front : P o at first front
  pub spells_back : Q first o (at + length front) v back

-- a value that passes a test
abbrev pub Such : {A : Type 0} → (A → Bool) → Spelling A → Spelling A
Such test P o at v b = P o at v b × (test v ≡ true)

-- no octets: the value is known
abbrev pub Known : {A : Type 0} → A → Spelling A
Known x o at v b = (v ≡ x) × (b ≡ [])

-- as many octets as were counted, which are the value
abbrev pub CountedOctets : ℕ → Spelling (List ℕ)
CountedOctets n o at v b = (length v ≡ n) × (b ≡ v)

-- as many octets as were counted, which are the value and a null, without a null inside; or none
abbrev pub CountedText : ℕ → Spelling (List ℕ)
CountedText zero o at v b = (v ≡ []) × (b ≡ [])
CountedText (suc n) o at v b = (length v ≡ n) × (b ≡ v ++ 0 ∷ []) × (has_null v ≡ false)

-- a sequence of octets: its length and the octets
abbrev pub SpellsOctets : Spelling (List ℕ)
SpellsOctets = Then (SpellsNumber w32) CountedOctets

-- a string: its length with the null, the octets, the null; or the length 0 for the empty string
abbrev pub SpellsString : Spelling (List ℕ)
SpellsString = Then (SpellsNumber w32) CountedText

-- no longer than a bound, where 0 is none
abbrev pub Bounded : ℕ → Spelling (List ℕ) → Spelling (List ℕ)
Bounded bound P o at v b = P o at v b × (passes bound (length v) ≡ false)

-- values one after the other, each spelled from where the last ended
abbrev pub SpellsEach : {A : Type 0} → Spelling A → Spelling (List A)
SpellsEach P o at [] b = b ≡ []
SpellsEach P o at (v ∷ vs) b =
    (front : List ℕ) × (back : List ℕ) × (b ≡ front ++ back) × P o at v front
    × SpellsEach P o (at + length front) vs back

-- as many values as were counted
abbrev pub CountedItems : {A : Type 0} → Spelling A → ℕ → Spelling (List A)
CountedItems P n o at vs b = (length vs ≡ n) × SpellsEach P o at vs b

-- a sequence: its count and as many values
abbrev pub SpellsSequence : {A : Type 0} → Spelling A → Spelling (List A)
SpellsSequence P = Then (SpellsNumber w32) (CountedItems P)
