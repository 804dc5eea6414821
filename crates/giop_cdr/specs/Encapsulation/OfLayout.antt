-- A value in an encapsulation (CORBA 3.3 Part 2, 9.3.3): what its octets mean, by the layout of the
-- value. Whatever stands behind the value is passed over, as later versions of a profile ask for.
use Rattle.std.specs.Prelude.{◌≡◌, ℕ, ◌+◌, ◌-◌, ◌<◌, ◌^◌, ◌⊎◌, ◌&&◌, slice_index, Bool, true, List, [], ◌∷◌, ◌++◌, length, Ok}
use Rattle.giop_cdr.specs.declared.order.Order.{Order}
use Rattle.giop_cdr.specs.declared.fault.CdrFault.{CdrFault}
use Rattle.giop_cdr.specs.declared.fault.CdrKind.TheVariants.{Short, BadOrder}
use Rattle.giop_cdr.specs.Reading.Cursor.{Cursor, place}
use Rattle.giop_cdr.specs.Reading.Values.{Reading, ◌>>=◌, fault, octets_at}
use Rattle.giop_cdr.specs.Spelling.{Spelling, SpellsOctets, Then}
use Rattle.giop_cdr.specs.Reading.Exactness.{Refusal, FirstRefused, Took, RefusedOctets}
use Rattle.giop_cdr.specs.Writing.Output.{Output}
use Rattle.giop_cdr.specs.Encapsulation.Opened.{order_octet, opened_of, Opens, opened, place_opened, closed}
use Rattle.giop_cdr.specs.Layout.{Layout, AreOctets}
use Rattle.giop_cdr.specs.RoundTrip.{IsReadBack}

-- octets are a byte order, a spelling of the value from offset 1 in that order, and any rest
pub record Encapsulates {A : Type 0} (P : Spelling A) (octets : List ℕ) (v : A) : Type 0 where
  pub order : Order
  pub front : List ℕ
  pub rest : List ℕ
  pub whole : octets ≡ order_octet order ∷ (front ++ rest)
  pub spells : P order 1 v front

-- the octets are none, or begin with no byte order, at the offset of the first of them; or the
-- value is refused, at an offset that counts from the byte order
abbrev pub RefusedInside : Refusal → ℕ → List ℕ → CdrFault → Type 0
RefusedInside R at octets e =
    ((octets ≡ []) × (e ≡ fault at Short))
    ⊎ ((1 < slice_index octets 0) × (e ≡ fault at BadOrder))
    ⊎ ((content : Cursor) × Opens octets content × R content e)

-- the value in octets of which the first stands at an offset, and where the reader outside
-- continues
unfoldable pub inside_at : {A : Type 0} → (Cursor → Reading A) → ℕ → List ℕ → Cursor → Reading A
inside_at read at octets behind = do
  content ← opened_of at octets behind
  v ← read content.0
  Ok (v.0, behind)

-- a value in an encapsulation, which is written in an order where it is short enough
unfoldable pub encapsulation : {A : Type 0} → Order → (A → Bool) → Layout A → Layout A
encapsulation order is_short f = record {
  spells = Then SpellsOctets (λ octets o at v b. Encapsulates f.spells octets v × (b ≡ []));
  refused = λ c. FirstRefused (Took SpellsOctets) (RefusedOctets 0)
      (λ octets d. RefusedInside f.refused (place 4 c + 4) octets) c;
  read = λ c. octets_at 0 c >>= λ octets. inside_at f.read (place 4 c + 4) octets.0 octets.1;
  written = λ v out. closed (place_opened out) (f.written v (opened order out));
  fits = λ v. f.fits v && is_short v;
  holds = f.holds;
}

-- the test of what is short enough: so is what is written, and so is whatever is spelled in octets
-- that an unsigned long counts
pub record IsShortTest {A : Type 0} (order : Order) (is_short : A → Bool)
    (f : Layout A) : Type 0 where
  pub written : (v : A) (out : Output) → f.fits v ≡ true → f.holds v → is_short v ≡ true
      → length (f.written v (opened order out)).octets
      < length (opened order out).octets + (2 ^ 32 - 1)
  pub spelled : (o : Order) (v : A) (octets : List ℕ) → AreOctets octets → f.spells o 1 v octets
      → length octets + 1 < 2 ^ 32 → is_short v ≡ true

-- what is written of a value between the beginning and the end of an encapsulation, with the byte
-- order, is fewer octets than an unsigned long counts
abbrev pub IsShortInside : {A : Type 0} → Order → Layout A → A → Output → Type 0
IsShortInside order f v out =
    length (f.written v (opened order out)).octets < length (opened order out).octets + (2 ^ 32 - 1)

-- what is written so is read back, in the order and the alignment of the encapsulation, whatever
-- order and offset the output has outside
abbrev pub IsBackFromInside : {A : Type 0} → Order → Layout A → A → Output → Type 0
IsBackFromInside order f v out =
    IsReadBack (encapsulation order (λ w. true) f).spells (encapsulation order (λ w. true) f).read
    v out (closed (place_opened out) (f.written v (opened order out)))
