-- Messages and bodies, which continue to the end of their octets (CORBA 3.3 Part 2, 9.4.2): a table
-- of fields of which the last is an ending.
use Rattle.std.specs.Prelude.{◌≡◌, ℕ, ◌+◌, ◌<◌, ◌==◌, ◌&&◌, Bool, true, false, if◌then◌else◌, List, length, drop, Result, Ok, Err, ⊤}
use Rattle.giop_cdr.specs.declared.order.Order.{Order}
use Rattle.giop_cdr.specs.declared.fault.CdrFault.{CdrFault}
use Rattle.giop_cdr.specs.declared.fault.CdrKind.TheVariants.{BadLabel, Trailing}
use Rattle.giop_cdr.specs.Reading.Cursor.{Cursor, pad, skip}
use Rattle.giop_cdr.specs.Reading.Values.{◌>>=◌, fault}
use Rattle.giop_cdr.specs.Reading.Exactness.{Refusal, Took, FirstRefused, NeverRefused}
use Rattle.giop_cdr.specs.Spelling.{Spelling, Then}
use Rattle.giop_cdr.specs.Writing.Output.{Output, append, padding_out}
use Rattle.giop_cdr.specs.RoundTrip.{IsSpelled}
use Rattle.giop_cdr.specs.Layout.{Layout, AreOctets}

-- what can be said of a value that all octets up to the end spell: as a layout, but that reading
-- leaves nothing
pub record Ending (A : Type 0) : Type 1 where
  pub spells : Spelling A
  pub refused : Refusal
  pub read : Cursor → Result A CdrFault
  pub written : A → Output → Output
  pub fits : A → Bool
  pub holds : A → Type 0

-- an answer is a value exactly where the octets up to the end spell it, and a fault exactly where
-- they are refused so
pub record IsExactToEnd {A : Type 0} (M : A → Type 0) (R : CdrFault → Type 0)
    (answer : Result A CdrFault) : Type 0 where
  pub found : (v : A) → answer ≡ Ok v → M v
  pub only : (v : A) → M v → answer ≡ Ok v
  pub refused : (e : CdrFault) → answer ≡ Err e → R e
  pub refuses : (e : CdrFault) → R e → answer ≡ Err e

-- the parts of an ending belong together
pub record IsLawfulEnding {A : Type 0} (f : Ending A) : Type 0 where
  pub exact : (c : Cursor) →
      IsExactToEnd (λ v. f.spells c.order c.at v c.rest) (f.refused c) (f.read c)
  pub written : (v : A) (out : Output) → f.fits v ≡ true → f.holds v
      → IsSpelled f.spells v out (f.written v out)
  pub fitting : (o : Order) (at : ℕ) (v : A) (octets : List ℕ) → AreOctets octets
      → f.spells o at v octets → (f.fits v ≡ true) × f.holds v

-- a value, and nothing behind it
unfoldable pub ended : {A : Type 0} → Layout A → Ending A
ended f = record {
  spells = f.spells;
  refused = FirstRefused (Took f.spells) f.refused
      (λ v d e. (0 < length d.rest) × (e ≡ fault d.at Trailing));
  read = λ c. f.read c >>= λ x.
      if length x.1.rest == 0 then Ok x.0 else Err (fault x.1.at Trailing);
  written = f.written;
  fits = f.fits;
  holds = f.holds;
}

-- an output that a writing added nothing to but pads is left as it was
abbrev pub unless_empty : Output → Output → Output → Output
unless_empty out padded done =
    if length done.octets == length padded.octets then out else done

-- what stands from the next multiple of 8 on: nothing where the octets end at it or before it. The
-- octets up to it are pads; where nothing is written behind them, they are not written either
unfoldable pub from_multiple_of_8 : {A : Type 0} → Ending A → Ending A
from_multiple_of_8 f = record {
  spells = λ o at v octets. f.spells o (at + pad 8 at) v (drop (pad 8 at) octets);
  refused = λ c. f.refused (skip (pad 8 c.at) c);
  read = λ c. f.read (skip (pad 8 c.at) c);
  written = λ v out.
      unless_empty out (padding_out 8 out) (f.written v (padding_out 8 out));
  fits = f.fits;
  holds = f.holds;
}

-- a part of a value, and behind it what that part leads to, up to the end
unfoldable pub leads : {A B : Type 0} → (A → B) → Layout B → (B → Ending A) → Ending A
leads part f g = record {
  spells = Then f.spells (λ x. (g x).spells);
  refused = FirstRefused (Took f.spells) f.refused (λ x. (g x).refused);
  read = λ c. f.read c >>= λ x. (g x.0).read x.1;
  written = λ v out. (g (part v)).written v (f.written (part v) out);
  fits = λ v. f.fits (part v) && (g (part v)).fits v;
  holds = λ v. f.holds (part v) × (g (part v)).holds v;
}

-- no value: whatever stands there is refused as BadLabel
unfoldable pub nothing : {A : Type 0} → Ending A
nothing = record {
  spells = λ o at v octets. ⊥;
  refused = λ c e. e ≡ fault c.at BadLabel;
  read = λ c. Err (fault c.at BadLabel);
  written = λ v out. out;
  fits = λ v. false;
  holds = λ v. ⊥;
}

-- the octets up to the end, as they are
unfoldable pub remainder : Ending (List ℕ)
remainder = record {
  spells = λ o at v octets. v ≡ octets;
  refused = NeverRefused;
  read = λ c. Ok c.rest;
  written = λ v out. append out v;
  fits = λ v. true;
  holds = λ v. ⊤;
}

-- a value that is made of one other part, which stands there up to the end
unfoldable pub made_of : {A B : Type 0} → (A → B) → (B → A) → Ending B → Ending A
made_of {A} {B} part make f = record {
  spells = λ o at v octets. (x : B) × ((v ≡ make x) × f.spells o at x octets);
  refused = f.refused;
  read = λ c. f.read c >>= λ x. Ok (make x);
  written = λ v out. f.written (part v) out;
  fits = λ v. f.fits (part v);
  holds = λ v. (v ≡ make (part v)) × f.holds (part v);
}
