-- Exact answers, one step after another.
use Rattle.std.proofs.Common.{◌≡◌, ◌⊎◌, inl, inr, Bool, true, false, cond, Result, Ok, Err, refl, sym, ap}
use Rattle.giop_cdr.specs.declared.fault.CdrFault.{CdrFault}
use Rattle.giop_cdr.specs.Reading.Cursor.{Cursor}
use Rattle.giop_cdr.specs.Reading.Values.{Reading, ◌>>=◌}
use Rattle.giop_cdr.specs.Reading.Exactness.{Stretch, Refusal, IsExactHere, InTurn, FirstRefused}

-- the steps of what answered a value
pub bind_elim : {A B : Type 0} (P : Type 0) (r : Result A CdrFault) (f : A → Result B CdrFault) (y : B)
    → ((x : A) → r ≡ Ok x → f x ≡ Ok y → P) → (r >>= f) ≡ Ok y → P
bind_elim P (Ok x) f y k e = k x refl e
bind_elim P (Err d) f y k e = absurd cc

-- the step at which a fault came
pub bind_fails : {A B : Type 0} (P : Type 0) (r : Result A CdrFault) (f : A → Result B CdrFault) (e : CdrFault)
    → (r ≡ Err e → P) → ((x : A) → r ≡ Ok x → f x ≡ Err e → P) → (r >>= f) ≡ Err e → P
bind_fails P (Ok x) f e k l h = l x refl h
bind_fails P (Err d) f e k l h = k cc

-- two steps
pub follow_exact : {A B : Type 0} (M : Stretch A) (R : Refusal) (N : A → Stretch B) (S : A → Refusal) (c : Cursor) (read : Reading A)
    (next : A → Cursor → Reading B)
    → IsExactHere (M c) (R c) read → ((x : A) (d : Cursor) → M c x d → IsExactHere (N x d) (S x d) (next x d))
    → IsExactHere (InTurn M N c) (FirstRefused M R S c) (read >>= λ x. next x.0 x.1)
follow_exact M R N S c read next one two = record {
  found = λ v e h. bind_elim (InTurn M N c v e) read (λ x. next x.0 x.1) (v, e)
      (λ x r f. let here = one.found x.0 x.1 r in record { first = x.0; middle = x.1; front = here; back = (two x.0 x.1 here).found v e f }) h;
  only = λ v e m. rw (one.only m.first m.middle m.front) ((two m.first m.middle m.front).only v e m.back);
  refused = λ e h. bind_fails (FirstRefused M R S c e) read (λ x. next x.0 x.1) e (λ r. inl (one.refused e r))
      (λ x r f. let here = one.found x.0 x.1 r in inr (record { first = x.0; middle = x.1; front = here; back = (two x.0 x.1 here).refused e f })) h;
  refuses = λ e why. elim why [
    | inl r ↦ rw (one.refuses e r) refl
    | inr b ↦ rw (one.only b.first b.middle b.front) ((two b.first b.middle b.front).refuses e b.back)
  ];
}

-- a test that refuses, before an answer
pub guard_exact : {A : Type 0} (b : Bool) (f : CdrFault) (M : A → Cursor → Type 0) (R : CdrFault → Type 0) (answer : Reading A)
    → IsExactHere M R answer → IsExactHere (λ v d. (b ≡ false) × M v d) (λ e. ((b ≡ true) × (e ≡ f)) ⊎ ((b ≡ false) × R e)) (cond b (Err f) answer)
guard_exact true f M R answer x = record {
  found = λ v d h. absurd cc;
  only = λ v d m. absurd cc;
  refused = λ e h. inl (refl, cc);
  refuses = λ e why. elim why [ inl r ↦ ap Err (sym r.1) | inr r ↦ absurd cc ];
}
guard_exact false f M R answer x = record {
  found = λ v d h. (refl, x.found v d h);
  only = λ v d m. x.only v d m.1;
  refused = λ e h. inr (refl, x.refused e h);
  refuses = λ e why. elim why [ inl r ↦ absurd cc | inr r ↦ x.refuses e r.1 ];
}

abbrev answered : {A : Type 0} → A → Result A CdrFault
answered x = Ok x

pub ok_same : {A : Type 0} (x y : A) → answered x ≡ answered y → x ≡ y
ok_same x y e = cc

-- an answer that is known
pub known_exact : {A : Type 0} (x : A) (d : Cursor) → IsExactHere (λ v e. (v ≡ x) × (e ≡ d)) (λ _. ⊥) (Ok (x, d))
known_exact {A} x d = record {
  found = λ v e h.
      let same : (x, d) ≡ (v, e) = ok_same (x, d) (v, e) h in
      (ap (λ (p : A × Cursor). p.0) (sym same), ap (λ (p : A × Cursor). p.1) (sym same));
  only = λ v e m. rw (m.0, m.1) refl;
  refused = λ e h. absurd cc;
  refuses = λ e why. absurd why;
}

-- the same answer by equal meanings
pub exact_by : {A : Type 0} (M N : A → Cursor → Type 0) (R S : CdrFault → Type 0) (answer : Reading A)
    → ((v : A) (d : Cursor) → M v d → N v d) → ((v : A) (d : Cursor) → N v d → M v d)
    → ((e : CdrFault) → R e → S e) → ((e : CdrFault) → S e → R e) → IsExactHere M R answer → IsExactHere N S answer
exact_by M N R S answer to from to_refused from_refused x = record {
  found = λ v d h. to v d (x.found v d h);
  only = λ v d n. x.only v d (from v d n);
  refused = λ e h. to_refused e (x.refused e h);
  refuses = λ e why. x.refuses e (from_refused e why);
}
