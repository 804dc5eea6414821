-- Each layout is lawful whose parts are: one line a field of a message's table.
use Rattle.std.proofs.Common.{◌≡◌, ℕ, zero, suc, ◌+◌, ◌<◌, ◌^◌, ◌&&◌, Bool, true, false, List, [], ◌∷◌, ◌++◌, length, get_or, Ok, refl, sym, ap, subst, ◌∙◌, length-append, arith}
use Rattle.std.proofs.lemmas.Bool.{lt-ltb, ltb-true, not-true}
use Rattle.std.proofs.lemmas.List.Elements.{All-head, All-tail, All-cons, All-nil}
use Rattle.std.specs.List.{list_all, AllByRecursion}
use Rattle.std.specs.Int.{Width, w8, w16, w32, w64, w128, byte_len}
use borrow.Author.Gap.{read_sfits}
use mir.Val.{bits}
use Rattle.giop_cdr.specs.declared.order.Order.{Order}
use Rattle.giop_cdr.specs.declared.order.Order.TheVariants.{Big, Little}
use Rattle.giop_cdr.specs.declared.fault.CdrFault.{CdrFault}
use Rattle.giop_cdr.specs.declared.fault.CdrKind.{CdrKind}
use Rattle.giop_cdr.specs.Reading.Cursor.{Cursor, num}
use Rattle.giop_cdr.specs.Reading.Values.{Reading, ◌>>=◌, octets_at, string_at, passes, number_at}
use Rattle.giop_cdr.specs.Spelling.{Spelling, SpellsNumber, SpellsOctets, SpellsString, SpellsEach, Bounded, CountedText}
use Rattle.giop_cdr.specs.Reading.Exactness.{Took, IsExact, IsExactHere, StandsAlone, TakesOctets, RefusedOctets, RefusedString}
use Rattle.giop_cdr.specs.Writing.Output.{Output, octets_out, string_out}
use Rattle.giop_cdr.specs.RoundTrip.{IsSpelled, IsReadBack, is_primitive}
use Rattle.giop_cdr.specs.Layout.{Layout, IsLawful, AreOctets, number, signed, boolean, octets, text, bounded_octets, bounded_text, such, field, gives, reserved, chosen, sequence, tagged, is_countable, is_spellable}
use Rattle.giop_cdr.proofs.Reading.Answers.{exact_by, bind_elim, bind_fails, ok_same}
use Rattle.giop_cdr.proofs.Spelling.FieldSpelling.{number_exact, signed_exact}
use Rattle.giop_cdr.proofs.Spelling.BooleanSpelling.{boolean_exact}
use Rattle.giop_cdr.proofs.Spelling.CountSpelling.{octets_exact}
use Rattle.giop_cdr.proofs.Spelling.TextSpelling.{string_exact}
use Rattle.giop_cdr.proofs.Spelling.SequenceSpelling.{sequence_exact}
use Rattle.giop_cdr.proofs.Spelling.Composing.{then_exact, nothing_exact, such_exact, unbounded_exact}
use Rattle.giop_cdr.proofs.Reading.Stretches.{stands_alone}
use Rattle.giop_cdr.proofs.Writing.RoundTripLemmas.{number_back, signed_back, boolean_back, octets_back, string_back}
use Rattle.giop_cdr.proofs.Spelling.SpelledLemmas.{read_back, spelled_of, then_spelled, known_spelled, sequence_spelled}

pub both : (a b : Bool) → (a && b) ≡ true → (a ≡ true) × (b ≡ true)
both true b e = (refl, e)
both false b e = absurd cc

pub and_true : (a b : Bool) → a ≡ true → b ≡ true → (a && b) ≡ true
and_true a b p q = rw (p, q) refl

-- octets in two parts
octets_front : (a b : List ℕ) → AreOctets (a ++ b) → AreOctets a
octets_front [] b all = All-nil (λ octet. octet < 256)
octets_front (x ∷ a) b all =
    All-cons (λ octet. octet < 256) x a (All-head (λ octet. octet < 256) x (a ++ b) all) (octets_front a b (All-tail (λ octet. octet < 256) x (a ++ b) all))

octets_back_of : (a b : List ℕ) → AreOctets (a ++ b) → AreOctets b
octets_back_of [] b all = all
octets_back_of (x ∷ a) b all = octets_back_of a b (All-tail (λ octet. octet < 256) x (a ++ b) all)

pub octets_of_whole : (whole a b : List ℕ) → whole ≡ a ++ b → AreOctets whole → AreOctets a × AreOctets b
octets_of_whole whole a b e all =
    let parts : AreOctets (a ++ b) = subst AreOctets e all in
    (octets_front a b parts, octets_back_of a b parts)

-- ---- numbers

num_is_small : (o : Order) (w : Width) (octets : List ℕ) → is_primitive w ≡ true → ((i : ℕ) → get_or octets i 0 < 256) → num o w octets < 2 ^ bits w
num_is_small Big w8 octets is small = omega (arith, small 0)
num_is_small Big w16 octets is small = omega (arith, small 0, small 1)
num_is_small Big w32 octets is small = omega (arith, small 0, small 1, small 2, small 3)
num_is_small Big w64 octets is small = omega (arith, small 0, small 1, small 2, small 3, small 4, small 5, small 6, small 7)
num_is_small Big w128 octets is small = absurd cc
num_is_small Little w8 octets is small = omega (arith, small 0)
num_is_small Little w16 octets is small = omega (arith, small 0, small 1)
num_is_small Little w32 octets is small = omega (arith, small 0, small 1, small 2, small 3)
num_is_small Little w64 octets is small = omega (arith, small 0, small 1, small 2, small 3, small 4, small 5, small 6, small 7)
num_is_small Little w128 octets is small = absurd cc

each_small : (octets : List ℕ) → AreOctets octets → (i : ℕ) → get_or octets i 0 < 256
each_small [] all i = omega arith
each_small (x ∷ octets) all zero = All-head (λ octet. octet < 256) x octets all
each_small (x ∷ octets) all (suc i) = each_small octets (All-tail (λ octet. octet < 256) x octets all) i

number_range : (w : Width) (o : Order) (at n : ℕ) (b : List ℕ) → is_primitive w ≡ true → AreOctets b → SpellsNumber w o at n b → n < 2 ^ bits w
number_range w o at n b is all s =
    let parts = octets_of_whole b s.pads s.octets s.whole all in
    rw s.value (num_is_small o w s.octets is (each_small s.octets parts.1))

pub number_is : (w : Width) → is_primitive w ≡ true → IsLawful (number w)
unfolding number
number_is w is = record {
  exact = number_exact w;
  written = λ n out fits small. spelled_of (SpellsNumber w) (number_at w) n out _ (number_back w n out is small);
  fitting = λ o at n octets all s. (refl, number_range w o at n octets is all s);
}

pub signed_is : (w : Width) → is_primitive w ≡ true → IsLawful (signed w)
unfolding signed
signed_is w is = record {
  exact = signed_exact w;
  written = λ z out fits small. spelled_of _ _ z out _ (signed_back w z out is small);
  fitting = λ o at z octets all s. (refl, rw s.value (read_sfits w (num o w s.octets)));
}

pub boolean_is : IsLawful boolean
unfolding boolean
boolean_is = record {
  exact = boolean_exact;
  written = λ v out fits holds. spelled_of _ _ v out _ (boolean_back v out);
  fitting = λ o at v octets all s. (refl, tt);
}

-- ---- octets and strings

pub any_octets : IsExact (Took SpellsOctets) (RefusedOctets 0) (octets_at 0)
any_octets = unbounded_exact SpellsOctets (RefusedOctets 0) (octets_at 0) (octets_exact 0)

pub any_string : IsExact (Took SpellsString) (RefusedString 0) (string_at 0)
any_string = unbounded_exact SpellsString (RefusedString 0) (string_at 0) (string_exact 0)

pub octets_count : (o : Order) (at : ℕ) (v b : List ℕ) → AreOctets b → SpellsOctets o at v b → is_countable v ≡ true
octets_count o at v b all s =
    let parts = octets_of_whole b s.front s.back s.whole all in
    let small = number_range w32 o at s.first s.front refl parts.0 s.spells_front in
    let long : length v ≡ s.first = s.spells_back.0 in
    lt-ltb _ _ (omega (arith, small, long))

text_count : (n : ℕ) (o : Order) (at : ℕ) (v b : List ℕ) → n < 2 ^ 32 → CountedText n o at v b → is_spellable v ≡ true
text_count zero o at v b small s = rw s.0 refl
text_count (suc n) o at v b small s =
    let short : length v + 1 < 2 ^ 32 = omega (arith, s.0) in
    and_true _ _ (lt-ltb _ _ short) (rw s.2 refl)

string_counts : (o : Order) (at : ℕ) (v b : List ℕ) → AreOctets b → SpellsString o at v b → is_spellable v ≡ true
string_counts o at v b all s =
    let parts = octets_of_whole b s.front s.back s.whole all in
    text_count s.first o (at + length s.front) v s.back (number_range w32 o at s.first s.front refl parts.0 s.spells_front) s.spells_back

spelled_octets : (v : List ℕ) (out : Output) → is_countable v ≡ true → IsSpelled SpellsOctets v out (octets_out v out)
spelled_octets v out fits = spelled_of SpellsOctets (octets_at 0) v out _ (octets_back v out (ltb-true _ _ fits))

spelled_string : (v : List ℕ) (out : Output) → is_spellable v ≡ true → IsSpelled SpellsString v out (string_out v out)
spelled_string v out fits =
    let parts = both _ _ fits in
    spelled_of SpellsString (string_at 0) v out _ (string_back v out (not-true _ parts.1) (ltb-true _ _ parts.0))

pub octets_is : IsLawful octets
unfolding octets
octets_is = record {
  exact = any_octets;
  written = λ v out fits holds. spelled_octets v out fits;
  fitting = λ o at v octets all s. (octets_count o at v octets all s, tt);
}

pub text_is : IsLawful text
unfolding text
text_is = record {
  exact = any_string;
  written = λ v out fits holds. spelled_string v out fits;
  fitting = λ o at v octets all s. (string_counts o at v octets all s, tt);
}

within : (bound : ℕ) (P : Spelling (List ℕ)) (v : List ℕ) (out done : Output) → passes bound (length v) ≡ false → IsSpelled P v out done
    → IsSpelled (Bounded bound P) v out done
within bound P v out done short s = record { part = s.part; octets = s.octets; order = s.order; at = s.at; spells = (s.spells, short) }

pub bounded_octets_is : (bound : ℕ) → IsLawful (bounded_octets bound)
unfolding bounded_octets
bounded_octets_is bound = record {
  exact = octets_exact bound;
  written = λ v out fits holds.
      let parts = both _ _ fits in
      within bound SpellsOctets v out _ (not-true _ parts.1) (spelled_octets v out parts.0);
  fitting = λ o at v octets all s. (and_true _ _ (octets_count o at v octets all s.0) (rw s.1 refl), tt);
}

pub bounded_text_is : (bound : ℕ) → IsLawful (bounded_text bound)
unfolding bounded_text
bounded_text_is bound = record {
  exact = string_exact bound;
  written = λ v out fits holds.
      let parts = both _ _ fits in
      within bound SpellsString v out _ (not-true _ parts.1) (spelled_string v out parts.0);
  fitting = λ o at v octets all s. (and_true _ _ (string_counts o at v octets all s.0) (rw s.1 refl), tt);
}

-- ---- tables of fields

pub such_is : {A : Type 0} (test : A → Bool) (n : ℕ) (kind : CdrKind) {f : Layout A} → IsLawful f → IsLawful (such test n kind f)
unfolding such
such_is test n kind {f} one = record {
  exact = such_exact test n kind f.spells f.refused f.read one.exact;
  written = λ v out fits holds.
      let parts = both _ _ fits in
      let s = one.written v out parts.0 holds in
      record { part = s.part; octets = s.octets; order = s.order; at = s.at; spells = (s.spells, parts.1) };
  fitting = λ o at v octets all s.
      let fits = one.fitting o at v octets all s.0 in
      (and_true _ _ fits.0 s.1, fits.1);
}

pub field_is : {A B : Type 0} (part : A → B) {f : Layout B} {g : B → Layout A}
    → ((x : B) (v : A) → f.fits x ≡ true → f.holds x → (g x).holds v → part v ≡ x) → IsLawful f → ((x : B) → IsLawful (g x)) → IsLawful (field part f g)
unfolding field
field_is {A} {B} part {f} {g} told one two = record {
  exact = then_exact f.spells (λ x. (g x).spells) f.refused (λ x. (g x).refused) f.read (λ x d. (g x).read d) one.exact (λ x. (two x).exact);
  written = λ v out fits holds.
      let parts = both _ _ fits in
      let mid : Output = f.written (part v) out in
      then_spelled f.spells (λ x. (g x).spells) (part v) v out mid ((g (part v)).written v mid)
      (one.written (part v) out parts.0 holds.0) ((two (part v)).written v mid parts.1 holds.1);
  fitting = λ o at v octets all s.
      let parts = octets_of_whole octets s.front s.back s.whole all in
      let first = one.fitting o at s.first s.front parts.0 s.spells_front in
      let behind = (two s.first).fitting o (at + length s.front) v s.back parts.1 s.spells_back in
      subst (λ (x : B). ((f.fits x && (g x).fits v) ≡ true) × (f.holds x × (g x).holds v)) (sym (told s.first v first.0 first.1 behind.1))
      (and_true _ _ first.0 behind.0, (first.1, behind.1));
}

pub gives_is : {A : Type 0} (x : A) → IsLawful (gives x)
unfolding gives
gives_is {A} x = record {
  exact = nothing_exact x;
  written = λ v out fits holds. subst (λ (w : A). IsSpelled (λ o at v b. (v ≡ x) × (b ≡ [])) w out out) (sym holds) (known_spelled x out);
  fitting = λ o at v octets all s. (refl, s.0);
}

pub chosen_is : {A : Type 0} (b : Bool) {one two : Layout A} → IsLawful one → IsLawful two → IsLawful (chosen b one two)
unfolding chosen
chosen_is true f g = f
chosen_is false f g = g

-- ---- values that mean nothing

meaningless_exact : {A : Type 0} (x : A) (M : A → Cursor → Type 0) (R : CdrFault → Type 0) (r : Reading A)
    → IsExactHere M R r → IsExactHere (λ v d. (v ≡ x) × ((y : A) × M y d)) R (r >>= λ y. Ok (x, y.1))
meaningless_exact {A} x M R r exact = record {
  found = λ v d h. bind_elim ((v ≡ x) × ((y : A) × M y d)) r (λ y. Ok (x, y.1)) (v, d)
      (λ y is f.
      let same : (x, y.1) ≡ (v, d) = ok_same (x, y.1) (v, d) f in
      let value : v ≡ x = ap (λ (p : A × Cursor). p.0) (sym same) in
      (value, (y.0, subst (λ (e : Cursor). M y.0 e) (ap (λ (p : A × Cursor). p.1) same) (exact.found y.0 y.1 is)))) h;
  only = λ v d m. rw (exact.only m.1.0 d m.1.1, m.0) refl;
  refused = λ e h. bind_fails (R e) r (λ y. Ok (x, y.1)) e (λ is. exact.refused e is) (λ y is f. absurd cc) h;
  refuses = λ e why. rw (exact.refuses e why) refl;
}

pub reserved_is : {A : Type 0} {f : Layout A} (x : A) → f.fits x ≡ true → f.holds x → IsLawful f → IsLawful (reserved f x)
unfolding reserved
reserved_is {A} {f} x fits holds one = record {
  exact = λ c. exact_by (λ v d. (v ≡ x) × ((y : A) × Took f.spells c y d)) _ (f.refused c) (f.refused c) _
      (λ v d m. let t = m.1.1 in record { octets = t.octets; front = t.front; at = t.at; order = t.order; spells = (m.0, (m.1.0, t.spells)) })
      (λ v d t. (t.spells.0, (t.spells.1.0, record { octets = t.octets; front = t.front; at = t.at; order = t.order; spells = t.spells.1.1 })))
      (λ e why. why) (λ e why. why)
      (meaningless_exact x (Took f.spells c) (f.refused c) (f.read c) (one.exact c));
  written = λ v out f_fits same.
      let s = one.written x out fits holds in
      record { part = s.part; octets = s.octets; order = s.order; at = s.at; spells = (same, (x, s.spells)) };
  fitting = λ o at v octets all s. (refl, s.0);
}

-- ---- sequences

each_fits : {A : Type 0} {f : Layout A} → IsLawful f → (o : Order) (at : ℕ) (vs : List A) (b : List ℕ) → AreOctets b → SpellsEach f.spells o at vs b
    → (list_all f.fits vs ≡ true) × AllByRecursion f.holds vs
each_fits one o at [] b all s = (refl, tt)
each_fits one o at (v ∷ vs) b all s =
    let parts = octets_of_whole b s.0 s.1 s.2 all in
    let first = one.fitting o at v s.0 parts.0 s.3 in
    let others = each_fits one o (at + length s.0) vs s.1 parts.1 s.4 in
    (and_true _ _ first.0 others.0, (first.1, others.1))

each_written : {A : Type 0} (f : Layout A) (vs : List A) → list_all f.fits vs ≡ true → AllByRecursion f.holds vs
    → AllByRecursion (λ v. (f.fits v ≡ true) × f.holds v) vs
each_written f [] fits holds = tt
each_written f (v ∷ vs) fits holds =
    let parts = both _ _ fits in
    ((parts.0, holds.0), each_written f vs parts.1 holds.1)

pub sequence_is : {A : Type 0} {f : Layout A} → TakesOctets f.spells → IsLawful f → IsLawful (sequence f)
unfolding sequence
sequence_is {A} {f} takes one = record {
  exact = sequence_exact f.spells f.refused f.read one.exact takes;
  written = λ vs out fits holds.
      let parts = both _ _ fits in
      sequence_spelled f.spells f.written (λ v. (f.fits v ≡ true) × f.holds v) (λ v out each. one.written v out each.0 each.1) vs out
      (ltb-true _ _ parts.0) (each_written f vs parts.1 holds);
  fitting = λ o at vs octets all s.
      let parts = octets_of_whole octets s.front s.back s.whole all in
      let small = number_range w32 o at s.first s.front refl parts.0 s.spells_front in
      let long : length vs ≡ s.first = s.spells_back.0 in
      let each = each_fits one o (at + length s.front) vs s.back parts.1 s.spells_back.1 in
      (and_true _ _ (lt-ltb _ _ (omega (arith, small, long))) each.0, each.1);
}

pub tagged_is : {A : Type 0} (tag_of : A → ℕ) (octets_of : A → List ℕ) (make : ℕ → List ℕ → A)
    → ((tag : ℕ) (contents : List ℕ) → tag_of (make tag contents) ≡ tag) → ((tag : ℕ) (contents : List ℕ) → octets_of (make tag contents) ≡ contents)
    → IsLawful (tagged tag_of octets_of make)
unfolding tagged field number octets gives
tagged_is tag_of octets_of make tag_is octets_are =
    field_is tag_of (λ tag v _ _ held. ap tag_of held.1 ∙ tag_is tag (octets_of v)) (number_is w32 refl)
    (λ tag. field_is octets_of (λ contents v _ _ held. ap octets_of held ∙ octets_are tag contents) octets_is (λ contents. gives_is (make tag contents)))

-- ---- which layouts take octets, as those of a sequence do

pub number_takes : (w : Width) → is_primitive w ≡ true → TakesOctets (number w).spells
unfolding number
number_takes w is o at v b s =
    let long : length b ≡ length s.pads + length s.octets = ap length s.whole ∙ length-append s.pads s.octets in
    omega (arith, s.few, some w is)
  where
    some : (w : Width) → is_primitive w ≡ true → 0 < byte_len w
    some w8 is = omega arith
    some w16 is = omega arith
    some w32 is = omega arith
    some w64 is = omega arith
    some w128 is = absurd cc

pub field_takes : {A B : Type 0} (part : A → B) (f : Layout B) (g : B → Layout A) → TakesOctets f.spells → TakesOctets (field part f g).spells
unfolding field
field_takes part f g takes o at v b s =
    let front : 0 < length s.front = takes o at s.first s.front s.spells_front in
    let whole : length b ≡ length s.front + length s.back = ap length s.whole ∙ length-append s.front s.back in
    omega arith

pub tagged_takes : {A : Type 0} (tag_of : A → ℕ) (octets_of : A → List ℕ) (make : ℕ → List ℕ → A) → TakesOctets (tagged tag_of octets_of make).spells
unfolding tagged
tagged_takes tag_of octets_of make = field_takes tag_of (number w32) _ (number_takes w32 refl)

-- ---- what follows, once and for all

-- no spelling begins another
pub alone_of : {A : Type 0} {f : Layout A} → IsLawful f → StandsAlone f.spells
alone_of {A} {f} one = stands_alone f.spells f.refused f.read one.exact

-- what is written of a value that fits is read back, with what stands behind it left
pub back_of : {A : Type 0} {f : Layout A} → IsLawful f → (v : A) (out : Output) → f.fits v ≡ true → f.holds v
    → IsReadBack f.spells f.read v out (f.written v out)
back_of {A} {f} one v out fits holds = read_back f.spells f.refused f.read one.exact v out (f.written v out) (one.written v out fits holds)

-- whatever octets spell fits: where a value doesn't fit, none do
pub unspelled : {A : Type 0} {f : Layout A} → IsLawful f → (v : A) → f.fits v ≡ false → (o : Order) (at : ℕ) (octets : List ℕ) → AreOctets octets
    → f.spells o at v octets → ⊥
unspelled one v unfit o at octets all s =
    let fits = (one.fitting o at v octets all s).0 in
    absurd cc
