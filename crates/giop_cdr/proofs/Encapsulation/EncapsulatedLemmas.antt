-- A value in an encapsulation is lawful where the value is.
use Rattle.std.proofs.Common.{◌≡◌, ℕ, zero, suc, ◌+◌, ◌<◌, ◌^◌, inl, inr, Bool, true, List, [], ◌∷◌, ◌++◌, length, Ok, Err, refl, sym, ap, subst, ◌∙◌, length-append, arith}
use Rattle.std.proofs.lemmas.Bool.{ltb-true}
use Rattle.std.proofs.lemmas.List.{append-nil}
use Rattle.std.proofs.lemmas.List.Elements.{All-tail}
use Rattle.std.specs.Prelude.{replicate}
use Rattle.std.specs.Int.{w32}
use Rattle.giop_cdr.specs.declared.order.Order.{Order}
use Rattle.giop_cdr.specs.declared.order.Order.TheVariants.{Big, Little}
use Rattle.giop_cdr.specs.Reading.Cursor.{Cursor, place}
use Rattle.giop_cdr.specs.Reading.Values.{Reading, ◌>>=◌, octets_at}
use Rattle.giop_cdr.specs.Spelling.{Spelling, SpellsOctets, Then}
use Rattle.giop_cdr.specs.Reading.Exactness.{Refusal, Took, IsExact, IsExactHere, InTurn, RefusedOctets}
use Rattle.giop_cdr.specs.Writing.Output.{Output, octets_of, number_out}
use Rattle.giop_cdr.specs.Encapsulation.Opened.{order_octet, content_of, opened, place_opened, closed}
use Rattle.giop_cdr.specs.RoundTrip.{IsSpelled}
use Rattle.giop_cdr.specs.Layout.{Layout, IsLawful, AreOctets, number}
use Rattle.giop_cdr.specs.Encapsulation.OfLayout.{Encapsulates, RefusedInside, inside_at, encapsulation, IsShortTest, IsShortInside, IsBackFromInside}
use Rattle.giop_cdr.proofs.Reading.Answers.{bind_elim, bind_fails, exact_by, follow_exact, ok_same}
use Rattle.giop_cdr.proofs.Encapsulation.EncapsulationLemmas.{ended_to, ended_from, closed_is_octets}
use Rattle.giop_cdr.proofs.Writing.RoundTripLemmas.{octets_back, spelled_is_read_back}
use Rattle.giop_cdr.proofs.Writing.WrittenNumbers.{length-octets_of}
use Rattle.giop_cdr.proofs.LayoutLemmas.{any_octets, both, and_true, octets_of_whole, octets_count}

first_same : (a b : ℕ) (s t : List ℕ) → a ∷ s ≡ b ∷ t → a ≡ b
first_same a b s t e = cc

rest_same : (a b : ℕ) (s t : List ℕ) → a ∷ s ≡ b ∷ t → s ≡ t
rest_same a b s t e = cc

same_order : (o p : Order) → order_octet o ≡ order_octet p → o ≡ p
same_order Big Big e = refl
same_order Big Little e = absurd cc
same_order Little Big e = absurd cc
same_order Little Little e = refl

no_order : (o : Order) → 1 < order_octet o → ⊥
no_order Big e = omega arith
no_order Little e = omega arith

abbrev Inside : {A : Type 0} → Spelling A → List ℕ → Cursor → A → Cursor → Type 0
Inside P octets behind v d = Encapsulates P octets v × (d ≡ behind)

-- octets that begin with a byte order
ordered_exact : {A : Type 0} (P : Spelling A) (R : Refusal) (read : Cursor → Reading A) → IsExact (Took P) R read
    → (o : Order) (octets : List ℕ) (at : ℕ) (behind : Cursor)
    → IsExactHere (Inside P (order_octet o ∷ octets) behind) (RefusedInside R at (order_octet o ∷ octets))
    (read (content_of o octets) >>= λ v. Ok (v.0, behind))
ordered_exact {A} P R read exact o octets at behind = record {
  found = λ v d h. bind_elim (Inside P (order_octet o ∷ octets) behind v d) (read (content_of o octets)) (λ x. Ok (x.0, behind)) (v, d)
      (λ x is f.
      let t = (exact (content_of o octets)).found x.0 x.1 is in
      let same : (x.0, behind) ≡ (v, d) = ok_same (x.0, behind) (v, d) f in
      let here : Encapsulates P (order_octet o ∷ octets) x.0
      = record { order = o; front = t.octets; rest = x.1.rest; whole = ap (λ (l : List ℕ). order_octet o ∷ l) t.front; spells = t.spells } in
      (subst (λ (w : A). Encapsulates P (order_octet o ∷ octets) w) (ap (λ (p : A × Cursor). p.0) same) here, ap (λ (p : A × Cursor). p.1) (sym same))) h;
  only = λ v d m.
      let e = m.0 in
      let same : e.order ≡ o = same_order e.order o (sym (first_same _ _ _ _ e.whole)) in
      let rest : octets ≡ e.front ++ e.rest = rest_same _ _ _ _ e.whole in
      let spells : P o 1 v e.front = subst (λ (p : Order). P p 1 v e.front) same e.spells in
      let after : Cursor = record { order = o; at = 1 + length e.front; rest = e.rest } in
      let found : read (content_of o octets) ≡ Ok (v, after)
      = (exact (content_of o octets)).only v after (record { octets = e.front; front = rest; at = refl; order = refl; spells = spells }) in
      rw (found, m.1) refl;
  refused = λ e h. bind_fails (RefusedInside R at (order_octet o ∷ octets) e) (read (content_of o octets)) (λ x. Ok (x.0, behind)) e
      (λ is. inr (inr (content_of o octets, (record { order = o; content = octets; whole = refl; value = refl }), (exact (content_of o octets)).refused e is)))
      (λ x is f. absurd cc) h;
  refuses = λ e why. elim why [
    | inl none ↦ absurd cc
    | inr more ↦ elim more [
      | inl bad ↦ absurd (no_order o bad.0)
      | inr inner ↦
          let opens = inner.1 in
          let same : opens.order ≡ o = same_order opens.order o (sym (first_same _ _ _ _ opens.whole)) in
          let rest : octets ≡ opens.content = rest_same _ _ _ _ opens.whole in
          let there : inner.0 ≡ content_of o octets = opens.value ∙ rw (same, rest) refl in
          let refused : read (content_of o octets) ≡ Err e
          = (exact (content_of o octets)).refuses e (subst (λ (c : Cursor). R c e) there inner.2) in
          rw refused refl
    ]
  ];
}

-- octets that an encapsulation has, of which the first stands at an offset
pub inside_exact : {A : Type 0} (P : Spelling A) (R : Refusal) (read : Cursor → Reading A) → IsExact (Took P) R read
    → (at : ℕ) (octets : List ℕ) (behind : Cursor)
    → IsExactHere (Inside P octets behind) (RefusedInside R at octets) (inside_at read at octets behind)
unfolding inside_at
inside_exact P R read exact at [] behind = record {
  found = λ v d h. absurd cc;
  only = λ v d m. let w = m.0.whole in absurd cc;
  refused = λ e h. inl (refl, cc);
  refuses = λ e why. elim why [
    | inl none ↦ ap Err (sym none.1)
    | inr more ↦ elim more [ inl bad ↦ absurd (omega (arith, bad.0)) | inr inner ↦ let w = inner.1.whole in absurd cc ]
  ];
}
inside_exact P R read exact at (zero ∷ octets) behind = ordered_exact P R read exact Big octets at behind
inside_exact P R read exact at (suc zero ∷ octets) behind = ordered_exact P R read exact Little octets at behind
inside_exact P R read exact at (suc (suc k) ∷ octets) behind = record {
  found = λ v d h. absurd cc;
  only = λ v d m. absurd (no_such k m.0.order (first_same _ _ _ _ m.0.whole));
  refused = λ e h. inr (inl (omega arith, cc));
  refuses = λ e why. elim why [
    | inl none ↦ absurd cc
    | inr more ↦ elim more [ inl bad ↦ ap Err (sym bad.1) | inr inner ↦ absurd (no_such k inner.1.order (first_same _ _ _ _ inner.1.whole)) ]
  ];
}
  where
    no_such : (k : ℕ) (o : Order) → suc (suc k) ≡ order_octet o → ⊥
    no_such k Big e = absurd cc
    no_such k Little e = absurd cc

-- ---- counted octets

encapsulation_written : {A : Type 0} (order : Order) (f : Layout A) → IsLawful f
    → (v : A) (out : Output) → f.fits v ≡ true → f.holds v → IsShortInside order f v out
    → IsSpelled (Then SpellsOctets (λ octets o at w b. Encapsulates f.spells octets w × (b ≡ []))) v out
    (closed (place_opened out) (f.written v (opened order out)))
unfolding opened
encapsulation_written {A} order f one v out fits holds short =
    let now : Output = f.written v (opened order out) in
    let s = one.written v (opened order out) fits holds in
    let long : length now.octets ≡ length (opened order out).octets + length s.part = ap length s.octets ∙ length-append (opened order out).octets s.part in
    let inside : List ℕ = order_octet order ∷ s.part in
    let b = octets_back inside out (omega (arith, long, short)) in
    subst (λ (done : Output). IsSpelled (Then SpellsOctets (λ octets o at w b. Encapsulates f.spells octets w × (b ≡ []))) v out done)
    (sym (closed_is_octets order out now s.part s.octets))
    (record {
      part = b.part;
      octets = b.octets;
      order = b.order;
      at = b.at;
      spells = record {
        first = inside;
        front = b.part;
        back = [];
        whole = sym (append-nil b.part);
        spells_front = b.spells;
        spells_back = (
          record {
            order = order;
            front = s.part;
            rest = [];
            whole = ap (λ (l : List ℕ). order_octet order ∷ l) (sym (append-nil s.part));
            spells = s.spells;
          },
          refl,
        );
      };
    })

encapsulated_exact : {A : Type 0} (order : Order) (is_short : A → Bool) (f : Layout A) → IsExact (Took f.spells) f.refused f.read
    → IsExact (Took (encapsulation order is_short f).spells) (encapsulation order is_short f).refused (encapsulation order is_short f).read
unfolding encapsulation
encapsulated_exact {A} order is_short f exact c = exact_by (InTurn (Took SpellsOctets) (λ octets d v e. Encapsulates f.spells octets v × (e ≡ d)) c) _ _ _ _
    (λ v e m. ended_to SpellsOctets (Encapsulates f.spells) c v e m) (λ v e t. ended_from SpellsOctets (Encapsulates f.spells) c v e t) (λ e why. why)
    (λ e why. why)
    (follow_exact (Took SpellsOctets) (RefusedOctets 0) (λ octets d v e. Encapsulates f.spells octets v × (e ≡ d))
    (λ octets d. RefusedInside f.refused (place 4 c + 4) octets) c (octets_at 0 c) (λ octets d. inside_at f.read (place 4 c + 4) octets d)
    (any_octets c) (λ octets d t. inside_exact f.spells f.refused f.read exact (place 4 c + 4) octets d))

-- what is written inside is read back, in the order and the alignment of inside
pub encapsulated_back : {A : Type 0} (order : Order) {f : Layout A} → IsLawful f → (v : A) (out : Output) → f.fits v ≡ true → f.holds v
    → IsShortInside order f v out → IsBackFromInside order f v out
unfolding encapsulation
encapsulated_back {A} order {f} one v out fits holds short =
    let s = encapsulation_written order f one v out fits holds short in
    let e = encapsulation order (λ w. true) f in
    spelled_is_read_back e.spells e.refused e.read (encapsulated_exact order (λ w. true) f one.exact) v out
    (closed (place_opened out) (f.written v (opened order out))) s.part s.octets s.order s.at s.spells

pub encapsulation_is : {A : Type 0} (order : Order) (is_short : A → Bool) {f : Layout A} → IsShortTest order is_short f → IsLawful f
    → IsLawful (encapsulation order is_short f)
unfolding encapsulation
encapsulation_is {A} order is_short {f} short one = record {
  exact = encapsulated_exact order is_short f one.exact;
  written = λ v out fits holds.
      let fit = both _ _ fits in
      encapsulation_written order f one v out fit.0 holds (short.written v out fit.0 holds fit.1);
  fitting = λ o at v octets all s.
      let e = s.spells_back.0 in
      let parts = octets_of_whole octets s.front s.back s.whole all in
      let counted = octets_of_whole s.front s.spells_front.front s.spells_front.back s.spells_front.whole parts.0 in
      let inside : AreOctets (order_octet e.order ∷ (e.front ++ e.rest)) = subst AreOctets (s.spells_front.spells_back.1 ∙ e.whole) counted.1 in
      let content =
      octets_of_whole (e.front ++ e.rest) e.front e.rest refl (All-tail (λ octet. octet < 256) (order_octet e.order) (e.front ++ e.rest) inside) in
      let fits = one.fitting e.order 1 v e.front content.0 e.spells in
      let small : length s.first < 2 ^ 32 = ltb-true _ _ (octets_count o at s.first s.front parts.0 s.spells_front) in
      let long : length s.first ≡ suc (length (e.front ++ e.rest)) = ap length e.whole in
      (and_true _ _ fits.0 (short.spelled e.order v e.front content.0 e.spells (omega (arith, small, long, length-append e.front e.rest))), fits.1);
}

-- a number is always short enough
pub number_is_short : (order : Order) → IsShortTest order (λ n. true) (number w32)
unfolding number number_out opened
number_is_short order = record {
  written = λ n out fits small is.
      let before : List ℕ = (opened order out).octets in
      let zeros : List ℕ = replicate 3 0 in
      let long : length (before ++ (zeros ++ octets_of order w32 n)) ≡ length before + 7
      = length-append before (zeros ++ octets_of order w32 n) ∙ rw (length-append zeros (octets_of order w32 n), length-octets_of order w32 n) refl in
      omega (arith, long);
  spelled = λ o n octets all s fits. refl;
}
