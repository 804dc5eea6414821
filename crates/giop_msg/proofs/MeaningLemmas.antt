-- A meaning of a lawful layout is lawful.
use Rattle.std.proofs.Common.{◌≡◌, Bool, true, Ok, refl, sym, ap, subst, ◌∙◌}
use Rattle.giop_cdr.specs.declared.fault.CdrFault.{CdrFault}
use Rattle.giop_cdr.specs.Reading.Cursor.{Cursor}
use Rattle.giop_cdr.specs.Reading.Values.{Reading, ◌>>=◌}
use Rattle.giop_cdr.specs.Reading.Exactness.{Took, IsExactHere}
use Rattle.giop_cdr.specs.Layout.{Layout, IsLawful}
use Rattle.giop_cdr.proofs.Reading.Answers.{exact_by, bind_elim, bind_fails, ok_same}
use Rattle.giop_cdr.proofs.LayoutLemmas.{both, and_true}
use Rattle.giop_msg.specs.Meaning.{meaning}

meant_exact : {A B : Type 0} (means : B → A) (M : B → Cursor → Type 0) (R : CdrFault → Type 0) (r : Reading B)
    → IsExactHere M R r → IsExactHere (λ v d. (y : B) × ((v ≡ means y) × M y d)) R (r >>= λ y. Ok (means y.0, y.1))
meant_exact {A} {B} means M R r exact = record {
  found = λ v d h. bind_elim ((y : B) × ((v ≡ means y) × M y d)) r (λ y. Ok (means y.0, y.1)) (v, d)
      (λ y is f.
      let same : (means y.0, y.1) ≡ (v, d) = ok_same (means y.0, y.1) (v, d) f in
      let value : v ≡ means y.0 = ap (λ (p : A × Cursor). p.0) (sym same) in
      (y.0, (value, subst (λ (e : Cursor). M y.0 e) (ap (λ (p : A × Cursor). p.1) same) (exact.found y.0 y.1 is)))) h;
  only = λ v d m. rw (exact.only m.0 d m.1.1, m.1.0) refl;
  refused = λ e h. bind_fails (R e) r (λ y. Ok (means y.0, y.1)) e (λ is. exact.refused e is) (λ y is f. absurd cc) h;
  refuses = λ e why. rw (exact.refuses e why) refl;
}

-- what is meant is written by its sign, and a sign is that of what it means
pub meaning_is : {A B : Type 0} (means : B → A) (sign : A → B) (is_meant : A → Bool) {f : Layout B}
    → ((v : A) → is_meant v ≡ true → means (sign v) ≡ v) → ((y : B) → sign (means y) ≡ y) → ((y : B) → is_meant (means y) ≡ true)
    → IsLawful f → IsLawful (meaning means sign is_meant f)
unfolding meaning
meaning_is {A} {B} means sign is_meant {f} back there passes one = record {
  exact = λ c. exact_by (λ v d. (y : B) × ((v ≡ means y) × Took f.spells c y d)) _ (f.refused c) (f.refused c) _
      (λ v d m. let t = m.1.1 in record { octets = t.octets; front = t.front; at = t.at; order = t.order; spells = (m.0, (m.1.0, t.spells)) })
      (λ v d t. (t.spells.0, (t.spells.1.0, record { octets = t.octets; front = t.front; at = t.at; order = t.order; spells = t.spells.1.1 })))
      (λ e why. why) (λ e why. why)
      (meant_exact means (Took f.spells c) (f.refused c) (f.read c) (one.exact c));
  written = λ v out fits holds.
      let parts = both _ _ fits in
      let s = one.written (sign v) out parts.1 holds in
      record { part = s.part; octets = s.octets; order = s.order; at = s.at; spells = (sign v, (sym (back v parts.0), s.spells)) };
  fitting = λ o at v octets all s.
      let first = one.fitting o at s.0 octets all s.1.1 in
      let same : s.0 ≡ sign v = sym (there s.0) ∙ ap sign (sym s.1.0) in
      (and_true _ _ (ap is_meant s.1.0 ∙ passes s.0) (subst (λ (y : B). f.fits y ≡ true) same first.0), subst (λ (y : B). f.holds y) same first.1);
}
