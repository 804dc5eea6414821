-- Each ending is lawful whose parts are: the last line of a message's table.
use Rattle.std.proofs.Common.{◌≡◌, ℕ, ◌+◌, ◌<◌, ◌==◌, ◌&&◌, Bool, true, false, if◌then◌else◌, List, [], ◌∷◌, ◌++◌, length, drop, take, replicate, Result, Ok, Err, refl, sym, ap, subst, ◌∙◌, inl, inr, append-nil, append_assoc, length-append, arith}
use Rattle.std.proofs.lemmas.Bool.{eqb-true}
use Rattle.std.proofs.lemmas.Bool.Decides.{nat_tests}
use Rattle.std.proofs.lemmas.List.{drop_at, take-append-drop, length-replicate}
use Rattle.std.proofs.Math.Seq.{drop-nil}
use Rattle.giop_cdr.specs.declared.order.Order.{Order}
use Rattle.giop_cdr.specs.declared.fault.CdrFault.{CdrFault}
use Rattle.giop_cdr.specs.declared.fault.CdrKind.TheVariants.{Trailing}
use Rattle.giop_cdr.specs.Reading.Cursor.{Cursor, pad, skip}
use Rattle.giop_cdr.specs.Reading.Values.{◌>>=◌, fault}
use Rattle.giop_cdr.specs.Reading.Exactness.{Took, FirstRefused}
use Rattle.giop_cdr.specs.Spelling.{Spelling, Then}
use Rattle.giop_cdr.specs.Writing.Output.{Output, padding_out}
use Rattle.giop_cdr.specs.RoundTrip.{IsSpelled}
use Rattle.giop_cdr.specs.Layout.{Layout, IsLawful, AreOctets}
use Rattle.giop_cdr.specs.Ending.{Ending, IsLawfulEnding, ended, from_multiple_of_8, leads, nothing, remainder, made_of}
use Rattle.giop_cdr.proofs.Reading.Answers.{bind_elim, bind_fails}
use Rattle.giop_cdr.proofs.Spelling.SpelledLemmas.{then_spelled}
use Rattle.giop_cdr.proofs.LayoutLemmas.{both, and_true, octets_of_whole}

empty : (rest : List ℕ) → (length rest == 0) ≡ true → rest ≡ []
empty [] is = refl
empty (x ∷ rest) is = absurd (omega (arith, eqb-true (length (x ∷ rest)) 0 is))

is_some : (n : ℕ) → 0 < n → (n == 0) ≡ false
is_some n some = grind (arith, nat_tests)

some_is : (n : ℕ) → (n == 0) ≡ false → 0 < n
some_is n is = grind (arith, nat_tests)

-- ---- a value, and nothing behind it

abbrev at_end : {A : Type 0} → A × Cursor → Result A CdrFault
at_end x = if length x.1.rest == 0 then Ok x.0 else Err (fault x.1.at Trailing)

end_value : {A : Type 0} (P : Type 0) (x : A × Cursor) (v : A) → (x.1.rest ≡ [] → x.0 ≡ v → P) → at_end x ≡ Ok v → P
end_value {A} P x v found h = by (length x.1.rest == 0) refl h
  where
    by : (b : Bool) → (length x.1.rest == 0) ≡ b → (if b then Ok x.0 else Err (fault x.1.at Trailing)) ≡ Ok v → P
    by true e h = found (empty x.1.rest e) cc
    by false e h = absurd cc

end_fault : {A : Type 0} (P : Type 0) (x : A × Cursor) (f : CdrFault) → (0 < length x.1.rest → f ≡ fault x.1.at Trailing → P) → at_end x ≡ Err f → P
end_fault {A} P x f found h = by (length x.1.rest == 0) refl h
  where
    by : (b : Bool) → (length x.1.rest == 0) ≡ b → (if b then Ok x.0 else Err (fault x.1.at Trailing)) ≡ Err f → P
    by true e h = absurd cc
    by false e h = found (some_is _ e) cc

pub ended_is : {A : Type 0} {f : Layout A} → IsLawful f → IsLawfulEnding (ended f)
unfolding ended
ended_is {A} {f} one = record {
  exact = λ c. record {
    found = λ v h. bind_elim (f.spells c.order c.at v c.rest) (f.read c) at_end v
        (λ x is e. end_value (f.spells c.order c.at v c.rest) x v
        (λ none same.
        let t = (one.exact c).found x.0 x.1 is in
        let all : c.rest ≡ t.octets = t.front ∙ ap (λ rest. t.octets ++ rest) none ∙ append-nil t.octets in
        subst (λ (w : A). f.spells c.order c.at w c.rest) same (subst (λ b. f.spells c.order c.at x.0 b) (sym all) t.spells)) e) h;
    only = λ v s.
        let after : Cursor = record { order = c.order; at = c.at + length c.rest; rest = [] } in
        let read : f.read c ≡ Ok (v, after) = (one.exact c).only v after
        (record { octets = c.rest; front = sym (append-nil c.rest); at = refl; order = refl; spells = s }) in
        rw read refl;
    refused = λ e h. bind_fails (FirstRefused (Took f.spells) f.refused (λ v d e. (0 < length d.rest) × (e ≡ fault d.at Trailing)) c e) (f.read c) at_end e
        (λ is. inl ((one.exact c).refused e is))
        (λ x is g. end_fault (FirstRefused (Took f.spells) f.refused (λ v d e. (0 < length d.rest) × (e ≡ fault d.at Trailing)) c e) x e
        (λ some same. inr (record { first = x.0; middle = x.1; front = (one.exact c).found x.0 x.1 is; back = (some, same) })) g) h;
    refuses = λ e why. elim why [
      | inl r ↦ rw ((one.exact c).refuses e r) refl
      | inr b ↦ rw ((one.exact c).only b.first b.middle b.front, is_some _ b.back.0, b.back.1) refl
    ];
  };
  written = one.written;
  fitting = one.fitting;
}

-- ---- from the next multiple of 8 on

nothing_added : (a b : List ℕ) → length (a ++ b) ≡ length a → b ≡ []
nothing_added a [] e = refl
nothing_added a (x ∷ b) e = absurd (omega (arith, e, length-append a (x ∷ b)))

abbrev zeros_of : ℕ → List ℕ
zeros_of n = replicate n 0

zeros_are : (n : ℕ) → length (zeros_of n) ≡ n
zeros_are n = length-replicate n 0

padded_written : {A : Type 0} (P : Spelling A) (v : A) (out padded done : Output) → padded ≡ padding_out 8 out → IsSpelled P v padded done
    → (b : Bool) → (length done.octets == length padded.octets) ≡ b
    → IsSpelled (λ o at w octets. P o (at + pad 8 at) w (drop (pad 8 at) octets)) v out (if b then out else done)
unfolding padding_out
padded_written {A} P v out padded done is s true none =
    let n : ℕ = pad 8 out.at in
    let part : s.part ≡ [] = nothing_added padded.octets s.part (sym (ap length s.octets) ∙ eqb-true _ _ none) in
    let at : padded.at ≡ out.at + n = ap (λ (p : Output). p.at) is ∙ ap (λ (m : ℕ). out.at + m) (zeros_are n) in
    let order : padded.order ≡ out.order = ap (λ (p : Output). p.order) is in
    let there : P out.order (out.at + n) v []
    = subst (λ (o : Order). P o (out.at + n) v []) order
    (subst (λ (m : ℕ). P padded.order m v []) at (subst (λ (b : List ℕ). P padded.order padded.at v b) part s.spells)) in
    record {
      part = [];
      octets = sym (append-nil out.octets);
      order = refl;
      at = omega arith;
      spells = subst (λ (b : List ℕ). P out.order (out.at + n) v b) (sym (drop-nil n)) there;
    }
padded_written {A} P v out padded done is s false some =
    let n : ℕ = pad 8 out.at in
    let zeros : List ℕ = zeros_of n in
    let at : padded.at ≡ out.at + n = ap (λ (p : Output). p.at) is ∙ ap (λ (m : ℕ). out.at + m) (zeros_are n) in
    let order : padded.order ≡ out.order = ap (λ (p : Output). p.order) is in
    let there : P out.order (out.at + n) v s.part
    = subst (λ (o : Order). P o (out.at + n) v s.part) order (subst (λ (m : ℕ). P padded.order m v s.part) at s.spells) in
    record {
      part = zeros ++ s.part;
      octets = s.octets ∙ ap (λ (p : Output). p.octets ++ s.part) is ∙ append_assoc out.octets zeros s.part;
      order = s.order ∙ order;
      at = omega (arith, s.at, at, length-append zeros s.part, zeros_are n);
      spells = subst (λ (b : List ℕ). P out.order (out.at + n) v b) (sym (drop_at zeros s.part n (zeros_are n))) there;
    }

pub from_multiple_of_8_is : {A : Type 0} {f : Ending A} → IsLawfulEnding f → IsLawfulEnding (from_multiple_of_8 f)
unfolding from_multiple_of_8
from_multiple_of_8_is {A} {f} one = record {
  exact = λ c. one.exact (skip (pad 8 c.at) c);
  written = λ v out fits holds. padded_written f.spells v out (padding_out 8 out) (f.written v (padding_out 8 out)) refl
      (one.written v (padding_out 8 out) fits holds) _ refl;
  fitting = λ o at v octets all s.
      let behind = octets_of_whole octets (take (pad 8 at) octets) (drop (pad 8 at) octets) (sym (take-append-drop (pad 8 at) octets)) all in
      one.fitting o (at + pad 8 at) v (drop (pad 8 at) octets) behind.1 s;
}

-- ---- a field, and what it leads to

behind_it : {A B : Type 0} (P : Spelling B) (Q : Spelling A) (c d : Cursor) (x : B) (v : A) → Took P c x d → Q d.order d.at v d.rest
    → (s : List ℕ) × (c.rest ≡ s ++ d.rest) × P c.order c.at x s × Q c.order (c.at + length s) v d.rest
behind_it P Q c d x v t q = (
  t.octets,
  t.front,
  t.spells,
  subst (λ (o : Order). Q o (c.at + length t.octets) v d.rest) t.order (subst (λ (n : ℕ). Q d.order n v d.rest) t.at q),
)

pub leads_is : {A B : Type 0} (part : A → B) {f : Layout B} {g : B → Ending A}
    → ((x : B) (v : A) → f.fits x ≡ true → f.holds x → (g x).holds v → part v ≡ x) → IsLawful f → ((x : B) → IsLawfulEnding (g x))
    → IsLawfulEnding (leads part f g)
unfolding leads
leads_is {A} {B} part {f} {g} told one two = record {
  exact = λ c. record {
    found = λ v h. bind_elim (Then f.spells (λ x. (g x).spells) c.order c.at v c.rest) (f.read c) (λ x. (g x.0).read x.1) v
        (λ x is e.
        let s = behind_it f.spells (g x.0).spells c x.1 x.0 v ((one.exact c).found x.0 x.1 is) (((two x.0).exact x.1).found v e) in
        record { first = x.0; front = s.0; back = x.1.rest; whole = s.1; spells_front = s.2; spells_back = s.3 }) h;
    only = λ v s.
        let after : Cursor = record { order = c.order; at = c.at + length s.front; rest = s.back } in
        let read : f.read c ≡ Ok (s.first, after) = (one.exact c).only s.first after
        (record { octets = s.front; front = s.whole; at = refl; order = refl; spells = s.spells_front }) in
        rw read (((two s.first).exact after).only v s.spells_back);
    refused = λ e h. bind_fails (FirstRefused (Took f.spells) f.refused (λ x. (g x).refused) c e) (f.read c) (λ x. (g x.0).read x.1) e
        (λ is. inl ((one.exact c).refused e is))
        (λ x is k. inr (record { first = x.0; middle = x.1; front = (one.exact c).found x.0 x.1 is; back = ((two x.0).exact x.1).refused e k })) h;
    refuses = λ e why. elim why [
      | inl r ↦ rw ((one.exact c).refuses e r) refl
      | inr b ↦ rw ((one.exact c).only b.first b.middle b.front) (((two b.first).exact b.middle).refuses e b.back)
    ];
  };
  written = λ v out fits holds.
      let parts = both _ _ fits in
      let mid : Output = f.written (part v) out in
      then_spelled f.spells (λ x. (g x).spells) (part v) v out mid ((g (part v)).written v mid)
      (one.written (part v) out parts.0 holds.0) ((two (part v)).written v mid parts.1 holds.1);
  fitting = λ o at v octets all s.
      let parts = octets_of_whole octets s.front s.back s.whole all in
      let first = one.fitting o at s.first s.front parts.0 s.spells_front in
      let behind = (two s.first).fitting o (at + length s.front) v s.back parts.1 s.spells_back in
      subst (λ (x : B). ((f.fits x && (g x).fits v) ≡ true) × (f.holds x × (g x).holds v)) (sym (told s.first v first.0 first.1 behind.1))
      (and_true _ _ first.0 behind.0, (first.1, behind.1));
}

-- ---- no value

pub nothing_is : {A : Type 0} → IsLawfulEnding (nothing {A = A})
unfolding nothing
nothing_is = record {
  exact = λ c. record { found = λ v h. absurd cc; only = λ v s. absurd s; refused = λ e h. cc; refuses = λ e why. rw why refl };
  written = λ v out fits holds. absurd cc;
  fitting = λ o at v octets all s. absurd s;
}

-- ---- the octets up to the end

pub remainder_is : IsLawfulEnding remainder
unfolding remainder
remainder_is = record {
  exact = λ c. record { found = λ v h. cc; only = λ v s. rw s refl; refused = λ e h. absurd cc; refuses = λ e why. absurd why };
  written = λ v out fits holds. record { part = v; octets = refl; order = refl; at = refl; spells = refl };
  fitting = λ o at v octets all s. (refl, tt);
}

-- ---- a value that is made of one part

made_value : {A B : Type 0} (P : Type 0) (make : B → A) (r : Result B CdrFault) (v : A) → ((x : B) → r ≡ Ok x → v ≡ make x → P)
    → (r >>= λ x. Ok (make x)) ≡ Ok v → P
made_value P make (Ok x) v found h = found x refl cc
made_value P make (Err e) v found h = absurd cc

made_fault : {A B : Type 0} (make : B → A) (r : Result B CdrFault) (e : CdrFault) → (r >>= λ x. Ok (make x)) ≡ Err e → r ≡ Err e
made_fault make (Ok x) e h = absurd cc
made_fault make (Err f) e h = cc

pub made_of_is : {A B : Type 0} (part : A → B) (make : B → A) {f : Ending B} → ((x : B) → part (make x) ≡ x) → IsLawfulEnding f
    → IsLawfulEnding (made_of part make f)
unfolding made_of
made_of_is {A} {B} part make {f} told one = record {
  exact = λ c. record {
    found = λ v h. made_value ((x : B) × ((v ≡ make x) × f.spells c.order c.at x c.rest)) make (f.read c) v
        (λ x is same. (x, (same, (one.exact c).found x is))) h;
    only = λ v s. rw ((one.exact c).only s.0 s.1.1, s.1.0) refl;
    refused = λ e h. (one.exact c).refused e (made_fault make (f.read c) e h);
    refuses = λ e why. rw ((one.exact c).refuses e why) refl;
  };
  written = λ v out fits holds.
      let s = one.written (part v) out fits holds.1 in
      record { part = s.part; octets = s.octets; order = s.order; at = s.at; spells = (part v, (holds.0, s.spells)) };
  fitting = λ o at v octets all s.
      let first = one.fitting o at s.0 octets all s.1.1 in
      let same : s.0 ≡ part v = sym (told s.0) ∙ ap part (sym s.1.0) in (
        subst (λ (x : B). f.fits x ≡ true) same first.0,
        (s.1.0 ∙ ap make same, subst (λ (x : B). f.holds x) same first.1),
      );
}

-- ---- what follows, once and for all

-- where a value doesn't fit, no octets spell it
pub never_ends : {A : Type 0} {f : Ending A} → IsLawfulEnding f → (v : A) → f.fits v ≡ false → (o : Order) (at : ℕ) (octets : List ℕ) → AreOctets octets
    → f.spells o at v octets → ⊥
never_ends one v unfit o at octets all s =
    let fits = (one.fitting o at v octets all s).0 in
    absurd cc
