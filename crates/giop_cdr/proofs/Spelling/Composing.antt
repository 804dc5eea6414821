-- Exact readers made of exact readers: for the crates above, which compose theirs of these.
use Rattle.std.proofs.Common.{◌≡◌, ℕ, ◌⊎◌, inl, inr, Bool, true, false, if◌then◌else◌, not, Ok, Err, List, [], refl, subst, sym, ◌∙◌, arith}
use Rattle.std.proofs.lemmas.Bool.{not-true, not-false}
use Rattle.giop_cdr.specs.declared.fault.CdrFault.{CdrFault}
use Rattle.giop_cdr.specs.declared.fault.CdrKind.{CdrKind}
use Rattle.giop_cdr.specs.Reading.Cursor.{Cursor, place}
use Rattle.giop_cdr.specs.Reading.Values.{Reading, ◌>>=◌, fault, such_at}
use Rattle.giop_cdr.specs.Spelling.{Spelling, Then, Known, Such, Bounded}
use Rattle.giop_cdr.specs.Reading.Exactness.{Stretch, Refusal, Took, IsExact, IsExactHere, InTurn, FirstRefused, RefusedUnless, NeverRefused}
use Rattle.giop_cdr.proofs.Reading.Answers.{follow_exact, guard_exact, exact_by, known_exact}
use Rattle.giop_cdr.proofs.Reading.Stretches.{cursor_is, follow_from_then, then_from_follow}

-- one value and then another
pub then_exact : {A B : Type 0} (P : Spelling A) (Q : A → Spelling B) (R : Refusal) (S : A → Refusal)
    (read : Cursor → Reading A) (next : A → Cursor → Reading B)
    → IsExact (Took P) R read → ((x : A) → IsExact (Took (Q x)) (S x) (next x))
    → IsExact (Took (Then P Q)) (FirstRefused (Took P) R S) (λ c. read c >>= λ x. next x.0 x.1)
then_exact P Q R S read next one two c =
    exact_by (InTurn (Took P) (λ x. Took (Q x)) c) (Took (Then P Q) c) (FirstRefused (Took P) R S c) (FirstRefused (Took P) R S c)
    (read c >>= λ x. next x.0 x.1) (then_from_follow P Q c) (follow_from_then P Q c) (λ e why. why) (λ e why. why)
    (follow_exact (Took P) R (λ x. Took (Q x)) S c (read c) next (one c) (λ x d t. two x d))

known_to : {A : Type 0} (x : A) (c : Cursor) (v : A) (d : Cursor) → (v ≡ x) × (d ≡ c) → Took (Known x) c v d
known_to {A} x c v d e =
    let here : Took (Known x) c x c = record { octets = []; front = refl; at = omega arith; order = refl; spells = (refl, refl) } in
    subst (λ (w : A). Took (Known x) c w d) (sym e.0) (subst (λ (f : Cursor). Took (Known x) c x f) (sym e.1) here)

known_from : {A : Type 0} (x : A) (c : Cursor) (v : A) (d : Cursor) → Took (Known x) c v d → (v ≡ x) × (d ≡ c)
known_from x c v d t =
    let none : t.octets ≡ [] = t.spells.1 in
    (t.spells.0, cursor_is d c t.order (t.at ∙ rw none (omega arith)) (sym (t.front ∙ rw none refl)))

-- a value that is known, which takes no octet
pub nothing_exact : {A : Type 0} (x : A) → IsExact (Took (Known x)) NeverRefused (λ c. Ok (x, c))
nothing_exact x c = exact_by (λ v d. (v ≡ x) × (d ≡ c)) (Took (Known x) c) (λ _. ⊥) (NeverRefused c) (Ok (x, c))
    (known_to x c) (known_from x c) (λ e never. never) (λ e never. never) (known_exact x c)

-- ---- a value that passes a test

abbrev Passing : {A : Type 0} → (A → Bool) → A → Stretch A
Passing test x d v e = (not (test x) ≡ false) × ((v ≡ x) × (e ≡ d))

abbrev Failing : {A : Type 0} → (A → Bool) → CdrFault → A → Refusal
Failing test f x d e = ((not (test x) ≡ true) × (e ≡ f)) ⊎ ((not (test x) ≡ false) × ⊥)

such_to : {A : Type 0} (test : A → Bool) (P : Spelling A) (c : Cursor) (v : A) (d : Cursor) → InTurn (Took P) (Passing test) c v d → Took (Such test P) c v d
such_to {A} test P c v d f =
    let t : Took P c v d = subst (λ (w : A). Took P c w d) (sym f.back.1.0) (subst (λ (e : Cursor). Took P c f.first e) (sym f.back.1.1) f.front) in
    let passes : test v ≡ true = rw f.back.1.0 (not-false (test f.first) f.back.0) in
    record { octets = t.octets; front = t.front; at = t.at; order = t.order; spells = (t.spells, passes) }

such_from : {A : Type 0} (test : A → Bool) (P : Spelling A) (c : Cursor) (v : A) (d : Cursor) → Took (Such test P) c v d → InTurn (Took P) (Passing test) c v d
such_from test P c v d t = record {
  first = v;
  middle = d;
  front = record { octets = t.octets; front = t.front; at = t.at; order = t.order; spells = t.spells.0 };
  back = (rw t.spells.1 refl, (refl, refl));
}

unless_to : {A : Type 0} (test : A → Bool) (n : ℕ) (kind : CdrKind) (M : Stretch A) (R : Refusal) (c : Cursor) (e : CdrFault)
    → FirstRefused M R (Failing test (fault (place n c) kind)) c e → RefusedUnless test n kind M R c e
unless_to test n kind M R c e why = elim why [
  | inl first ↦ inl first
  | inr b ↦ elim b.back [
    | inl fails ↦ inr (record { first = b.first; middle = b.middle; front = b.front; back = (not-true (test b.first) fails.0, fails.1) })
    | inr never ↦ absurd never.1
  ]
]

unless_from : {A : Type 0} (test : A → Bool) (n : ℕ) (kind : CdrKind) (M : Stretch A) (R : Refusal) (c : Cursor) (e : CdrFault)
    → RefusedUnless test n kind M R c e → FirstRefused M R (Failing test (fault (place n c) kind)) c e
unless_from test n kind M R c e why = elim why [
  | inl first ↦ inl first
  | inr b ↦ inr (record { first = b.first; middle = b.middle; front = b.front; back = inl (rw b.back.0 refl, b.back.1) })
]

pub such_exact : {A : Type 0} (test : A → Bool) (n : ℕ) (kind : CdrKind) (P : Spelling A) (R : Refusal) (read : Cursor → Reading A)
    → IsExact (Took P) R read → IsExact (Took (Such test P)) (RefusedUnless test n kind (Took P) R) (such_at test n kind read)
unfolding such_at
such_exact test n kind P R read exact c =
    exact_by (InTurn (Took P) (Passing test) c) (Took (Such test P) c) (FirstRefused (Took P) R (Failing test (fault (place n c) kind)) c)
    (RefusedUnless test n kind (Took P) R c) (such_at test n kind read c) (such_to test P c) (such_from test P c)
    (unless_to test n kind (Took P) R c) (unless_from test n kind (Took P) R c)
    (follow_exact (Took P) R (Passing test) (Failing test (fault (place n c) kind)) c (read c)
    (λ x d. if not (test x) then Err (fault (place n c) kind) else Ok (x, d)) (exact c)
    (λ x d t. guard_exact (not (test x)) (fault (place n c) kind) (λ v e. (v ≡ x) × (e ≡ d)) (λ _. ⊥) (Ok (x, d)) (known_exact x d)))

-- the same reader, written in another way
pub exact_as : {A : Type 0} (M : Stretch A) (R : Refusal) (read again : Cursor → Reading A) → ((c : Cursor) → again c ≡ read c) → IsExact M R read
    → IsExact M R again
exact_as M R read again same exact c = subst (λ (r : Reading _). IsExactHere (M c) (R c) r) (sym (same c)) (exact c)

no_bound_to : (P : Spelling (List ℕ)) (c : Cursor) (v : List ℕ) (d : Cursor) → Took (Bounded 0 P) c v d → Took P c v d
no_bound_to P c v d t = record { octets = t.octets; front = t.front; at = t.at; order = t.order; spells = t.spells.0 }

no_bound_from : (P : Spelling (List ℕ)) (c : Cursor) (v : List ℕ) (d : Cursor) → Took P c v d → Took (Bounded 0 P) c v d
no_bound_from P c v d t = record { octets = t.octets; front = t.front; at = t.at; order = t.order; spells = (t.spells, refl) }

-- a bound of 0 is none
pub unbounded_exact : (P : Spelling (List ℕ)) (R : Refusal) (read : Cursor → Reading (List ℕ)) → IsExact (Took (Bounded 0 P)) R read → IsExact (Took P) R read
unbounded_exact P R read exact c = exact_by (Took (Bounded 0 P) c) (Took P c) (R c) (R c) (read c)
    (no_bound_to P c) (no_bound_from P c) (λ e why. why) (λ e why. why) (exact c)
