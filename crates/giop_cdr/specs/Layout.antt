-- Layouts: a value on the wire, defined once (CORBA 3.3 Part 2, 9.3). A message is a table of
-- fields, each by its layout, in their order; all that is said of it follows from that table.
use Rattle.std.specs.Prelude.{◌≡◌, ℕ, ℤ, ◌+◌, ◌<◌, ◌^◌, ◌&&◌, Bool, true, false, not, nat_lt, if◌then◌else◌, List, length, All, Ok, FitsSigned, ⊤}
use Rattle.std.specs.List.{list_all, AllByRecursion}
use Rattle.std.specs.Int.{Width, w8, w32, byte_len}
use mir.Val.{bits}
use Rattle.giop_cdr.specs.declared.order.Order.{Order}
use Rattle.giop_cdr.specs.declared.fault.CdrKind.{CdrKind}
use Rattle.giop_cdr.specs.Reading.Cursor.{Cursor}
use Rattle.giop_cdr.specs.Reading.Values.{Reading, ◌>>=◌, number_at, signed_at, boolean_at, octets_at, string_at, such_at, sequence_at, has_null, passes}
use Rattle.giop_cdr.specs.Spelling.{Spelling, SpellsNumber, SpellsSigned, SpellsBoolean, SpellsOctets, SpellsString, SpellsSequence, Then, Such, Known, Bounded}
use Rattle.giop_cdr.specs.Reading.Exactness.{Refusal, Took, IsExact, FirstRefused, NeverRefused, RefusedShort, RefusedBoolean, RefusedOctets, RefusedString, RefusedUnless, RefusedSequence}
use Rattle.giop_cdr.specs.Writing.Output.{Output, number_out, signed_out, octets_out, string_out, sequence_out}
use Rattle.giop_cdr.specs.RoundTrip.{IsSpelled}

-- what can be said of a value on the wire: which octets spell it, why octets are refused, what
-- reading answers, what is written; whether it can be written, which code asks; and what the type
-- that holds it in a program says of it already, as the range of a number
pub record Layout (A : Type 0) : Type 1 where
  pub spells : Spelling A
  pub refused : Refusal
  pub read : Cursor → Reading A
  pub written : A → Output → Output
  pub fits : A → Bool
  pub holds : A → Type 0

-- each octet of a list is one
abbrev pub AreOctets : List ℕ → Type 0
AreOctets octets = All (λ octet. octet < 256) octets

-- the parts of a layout belong together: reading answers what is spelled, and refuses as is said;
-- what is written of a value that fits spells it; and whatever octets spell fits
pub record IsLawful {A : Type 0} (f : Layout A) : Type 0 where
  pub exact : IsExact (Took f.spells) f.refused f.read
  pub written : (v : A) (out : Output) → f.fits v ≡ true → f.holds v
      → IsSpelled f.spells v out (f.written v out)
  pub fitting : (o : Order) (at : ℕ) (v : A) (octets : List ℕ) → AreOctets octets
      → f.spells o at v octets → (f.fits v ≡ true) × f.holds v

-- ---- values

-- an unsigned number of a width
unfoldable pub number : Width → Layout ℕ
number w = record {
  spells = SpellsNumber w;
  refused = RefusedShort (byte_len w);
  read = number_at w;
  written = number_out w;
  fits = λ n. true;
  holds = λ n. n < 2 ^ bits w;
}

-- a signed number
unfoldable pub signed : Width → Layout ℤ
signed w = record {
  spells = SpellsSigned w;
  refused = RefusedShort (byte_len w);
  read = signed_at w;
  written = signed_out w;
  fits = λ z. true;
  holds = λ z. FitsSigned w z;
}

-- a boolean
unfoldable pub boolean : Layout Bool
boolean = record {
  spells = SpellsBoolean;
  refused = RefusedBoolean;
  read = boolean_at;
  written = λ v out. number_out w8 (if v then 1 else 0) out;
  fits = λ v. true;
  holds = λ v. ⊤;
}

-- whether a sequence of octets is short enough for its length
abbrev pub is_countable : List ℕ → Bool
is_countable octets = nat_lt (length octets) (2 ^ 32)

-- whether octets are a string's: short enough for their length and the null, and no null among them
abbrev pub is_spellable : List ℕ → Bool
is_spellable text = nat_lt (length text + 1) (2 ^ 32) && not (has_null text)

-- a sequence of octets
unfoldable pub octets : Layout (List ℕ)
octets = record {
  spells = SpellsOctets;
  refused = RefusedOctets 0;
  read = octets_at 0;
  written = octets_out;
  fits = is_countable;
  holds = λ octets. ⊤;
}

-- a string
unfoldable pub text : Layout (List ℕ)
text = record {
  spells = SpellsString;
  refused = RefusedString 0;
  read = string_at 0;
  written = string_out;
  fits = is_spellable;
  holds = λ text. ⊤;
}

-- a sequence of no more octets than a bound, where 0 is none
unfoldable pub bounded_octets : ℕ → Layout (List ℕ)
bounded_octets bound = record {
  spells = Bounded bound SpellsOctets;
  refused = RefusedOctets bound;
  read = octets_at bound;
  written = octets_out;
  fits = λ octets. is_countable octets && not (passes bound (length octets));
  holds = λ octets. ⊤;
}

-- a string no longer than a bound, where 0 is none
unfoldable pub bounded_text : ℕ → Layout (List ℕ)
bounded_text bound = record {
  spells = Bounded bound SpellsString;
  refused = RefusedString bound;
  read = string_at bound;
  written = string_out;
  fits = λ text. is_spellable text && not (passes bound (length text));
  holds = λ text. ⊤;
}

-- ---- tables of fields

-- a value that passes a test; another is refused at its place, which is aligned to n
unfoldable pub such : {A : Type 0} → (A → Bool) → ℕ → CdrKind → Layout A → Layout A
such test n kind f = record {
  spells = Such test f.spells;
  refused = RefusedUnless test n kind (Took f.spells) f.refused;
  read = such_at test n kind f.read;
  written = f.written;
  fits = λ v. f.fits v && test v;
  holds = f.holds;
}

-- a part of a value, and behind it what that part leads to
unfoldable pub field : {A B : Type 0} → (A → B) → Layout B → (B → Layout A) → Layout A
field part f g = record {
  spells = Then f.spells (λ x. (g x).spells);
  refused = FirstRefused (Took f.spells) f.refused (λ x. (g x).refused);
  read = λ c. f.read c >>= λ x. (g x.0).read x.1;
  written = λ v out. (g (part v)).written v (f.written (part v) out);
  fits = λ v. f.fits (part v) && (g (part v)).fits v;
  holds = λ v. f.holds (part v) × (g (part v)).holds v;
}

-- no octets: all parts are known
unfoldable pub gives : {A : Type 0} → A → Layout A
gives x = record {
  spells = Known x;
  refused = NeverRefused;
  read = λ c. Ok (x, c);
  written = λ v out. out;
  fits = λ v. true;
  holds = λ v. v ≡ x;
}

-- a value that means nothing: whatever is there is read as x, and x is written
unfoldable pub reserved : {A : Type 0} → Layout A → A → Layout A
reserved {A} f x = record {
  spells = λ o at v octets. (v ≡ x) × ((y : A) × f.spells o at y octets);
  refused = f.refused;
  read = λ c. f.read c >>= λ y. Ok (x, y.1);
  written = λ v out. f.written x out;
  fits = λ v. true;
  holds = λ v. v ≡ x;
}

-- one of two layouts, by a test of what stands before
unfoldable pub chosen : {A : Type 0} → Bool → Layout A → Layout A → Layout A
chosen true one two = one
chosen false one two = two

-- a sequence: a count and as many values
unfoldable pub sequence : {A : Type 0} → Layout A → Layout (List A)
sequence f = record {
  spells = SpellsSequence f.spells;
  refused = RefusedSequence (Took f.spells) f.refused;
  read = sequence_at f.read;
  written = sequence_out f.written;
  fits = λ vs. nat_lt (length vs) (2 ^ 32) && list_all f.fits vs;
  holds = λ vs. AllByRecursion f.holds vs;
}

-- an unsigned long and a sequence of octets: a service context, a tagged profile, a tagged
-- component
unfoldable pub tagged : {A : Type 0} → (A → ℕ) → (A → List ℕ) → (ℕ → List ℕ → A) → Layout A
tagged tag_of octets_of make =
    field tag_of (number w32) λ tag.
    field octets_of octets λ contents.
    gives (make tag contents)
