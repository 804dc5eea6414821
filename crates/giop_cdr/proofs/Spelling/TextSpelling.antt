-- Strings: the octets that a length counts, and the text in them.
use Rattle.std.proofs.Common.{◌≡◌, ℕ, zero, suc, ◌+◌, ◌-◌, ◌≤◌, ◌==◌, ◌&&◌, ◌⊎◌, inl, inr, Bool, true, false, not, if◌then◌else◌, Ok, Err, List, [], ◌∷◌, ◌++◌, length, get_or, take, refl, sym, subst, ◌∙◌, length-append, arith}
use Rattle.std.proofs.Math.Seq.{take-suc}
use Rattle.std.proofs.lemmas.Bool.{eqb-true, not-true, not-false}
use Rattle.std.proofs.lemmas.List.{take_at, drop_at, take_all, take-take, length-take-le, take-append-drop}
use Rattle.std.specs.Int.{w32}
use Rattle.giop_cdr.specs.declared.order.Order.{Order}
use Rattle.giop_cdr.specs.declared.fault.CdrFault.{CdrFault}
use Rattle.giop_cdr.specs.declared.fault.CdrKind.TheVariants.{BadString, BoundPassed}
use Rattle.giop_cdr.specs.Reading.Cursor.{Cursor, place, skip}
use Rattle.giop_cdr.specs.Reading.Values.{fault, count_at, string_at, has_null, is_text, passes}
use Rattle.giop_cdr.specs.Spelling.{SpellsNumber, CountedText, SpellsString, Bounded}
use Rattle.giop_cdr.specs.Reading.Exactness.{Took, IsExact, InTurn, FirstRefused, Counts, RefusedCount, RefusedString}
use Rattle.giop_cdr.proofs.Reading.Answers.{follow_exact, guard_exact, known_exact, exact_by}
use Rattle.giop_cdr.proofs.Reading.Stretches.{cursor_is, follow_from_then, then_from_follow}
use Rattle.giop_cdr.proofs.Spelling.CountSpelling.{count_exact}
use Rattle.giop_cdr.proofs.Reading.RunLemmas.{is_text-last}

both_true : (a b : Bool) → (a && b) ≡ true → (a ≡ true) × (b ≡ true)
both_true true b e = (refl, e)
both_true false b e = absurd cc

-- no null stands before the last octet of a text
pub text_inside : (n : ℕ) (octets : List ℕ) → n ≤ length octets → is_text (take n octets) ≡ true → has_null (take (n - 1) octets) ≡ false
text_inside zero octets le is = refl
text_inside (suc n) octets le is =
    let long : length (take (suc n) octets) ≡ suc n = length-take-le (suc n) octets le in
    let parts = both_true (get_or (take (suc n) octets) n 0 == 0) (not (has_null (take n (take (suc n) octets))))
    (sym (is_text-last (take (suc n) octets) n (omega (arith, long))) ∙ is) in
    let less : suc n - 1 ≡ n = omega arith in
    rw (less, ← take-take n (suc n) octets (omega arith)) (not-true (has_null (take n (take (suc n) octets))) parts.1)

-- what a length counts is a text exactly where it is one by the test
text_from_test : (n : ℕ) (o : Order) (at : ℕ) (t : List ℕ) → length t ≡ n → is_text t ≡ true → CountedText n o at (take (n - 1) t) t
text_from_test zero o at [] long is = (refl, refl)
text_from_test zero o at (b ∷ t) long is = absurd (omega arith)
text_from_test (suc n) o at t long is =
    let parts = both_true (get_or t n 0 == 0) (not (has_null (take n t))) (sym (is_text-last t n (omega arith)) ∙ is) in
    let null : get_or t n 0 ≡ 0 = eqb-true (get_or t n 0) 0 parts.0 in
    let whole : t ≡ take n t ++ 0 ∷ [] = sym (take_all (suc n) t (omega arith)) ∙ (take-suc t n 0 (omega arith) ∙ rw null refl) in
    let shorter : suc n - 1 ≡ n = omega arith in
    rw shorter (length-take-le n t (omega arith), whole, not-true (has_null (take n t)) parts.1)

record TestsAsText (n : ℕ) (v t : List ℕ) : Type 0 where
  pub long : length t ≡ n
  pub is : is_text t ≡ true
  pub front : v ≡ take (n - 1) t
  pub shorter : length v ≡ n - 1

test_from_text : (n : ℕ) (o : Order) (at : ℕ) (v t : List ℕ) → CountedText n o at v t → TestsAsText n v t
test_from_text zero o at v t e = record {
  long = rw e.1 refl;
  is = rw e.1 refl;
  front = e.0;
  shorter = rw e.0 refl;
}
test_from_text (suc n) o at v t e =
    let long : length t ≡ n + 1 = rw e.1 (omega (arith, length-append v (0 ∷ []), e.0)) in
    let front : take n t ≡ v = rw e.1 (take_at v (0 ∷ []) n e.0) in
    let null : get_or t n 0 ≡ 0 = rw (e.1, ← e.0) (get_or-append_at v 0 []) in
    let shorter : suc n - 1 ≡ n = omega arith in
    record {
      long = omega arith;
      is = is_text-last t n long ∙ rw (null, front, e.2) refl;
      front = rw shorter (sym front);
      shorter = omega (arith, e.0);
    }
  where
    get_or-append_at : (a : List ℕ) (x : ℕ) (b : List ℕ) → get_or (a ++ x ∷ b) (length a) 0 ≡ x
    get_or-append_at [] x b = refl
    get_or-append_at (y ∷ a) x b = get_or-append_at a x b

abbrev within : ℕ → ℕ → Cursor → List ℕ → Cursor → Type 0
within bound n d v e = (not (is_text (take n d.rest)) ≡ false) × ((passes bound (n - 1) ≡ false) × ((v ≡ take (n - 1) d.rest) × (e ≡ skip n d)))

front_of_front : (n : ℕ) (l : List ℕ) → n ≤ length l → take (n - 1) (take n l) ≡ take (n - 1) l
front_of_front n l enough = take-take (n - 1) n l (omega arith)

took_text : (n : ℕ) (d : Cursor) → n ≤ length d.rest → is_text (take n d.rest) ≡ true → Took (CountedText n) d (take (n - 1) d.rest) (skip n d)
took_text n d enough is = record {
  octets = take n d.rest;
  front = sym (take-append-drop n d.rest);
  at = rw (length-take-le n d.rest enough) refl;
  order = refl;
  spells = subst (λ (v : List ℕ). CountedText n d.order d.at v (take n d.rest)) (front_of_front n d.rest enough)
      (text_from_test n d.order d.at (take n d.rest) (length-take-le n d.rest enough) is);
}

string_to : (bound : ℕ) (c : Cursor) (v : List ℕ) (e : Cursor) → InTurn Counts (within bound) c v e → Took (Bounded bound SpellsString) c v e
string_to bound c v e f =
    let n = f.first in
    let here = took_text n f.middle f.front.1 (not-false (is_text (take n f.middle.rest)) f.back.0) in
    let counted : Took (CountedText n) f.middle v e
    = subst (λ (w : List ℕ). Took (CountedText n) f.middle w e) (sym f.back.1.1.0)
    (subst (λ (d : Cursor). Took (CountedText n) f.middle (take (n - 1) f.middle.rest) d) (sym f.back.1.1.1) here) in
    let both : Took SpellsString c v e = then_from_follow (SpellsNumber w32) CountedText c v e
    (record { first = n; middle = f.middle; front = f.front.0; back = counted }) in
    let test = test_from_text n f.middle.order f.middle.at v counted.octets counted.spells in
    record { octets = both.octets; front = both.front; at = both.at; order = both.order; spells = (both.spells, rw test.shorter f.back.1.0) }

string_from : (bound : ℕ) (c : Cursor) (v : List ℕ) (e : Cursor) → Took (Bounded bound SpellsString) c v e → InTurn Counts (within bound) c v e
string_from bound c v e t =
    let f = follow_from_then (SpellsNumber w32) CountedText c v e
    (record { octets = t.octets; front = t.front; at = t.at; order = t.order; spells = t.spells.0 }) in
    let n = f.first in
    let d = f.middle in
    let counted = f.back in
    let test = test_from_text n d.order d.at v counted.octets counted.spells in
    let enough : n ≤ length d.rest = rw counted.front (omega (arith, length-append counted.octets e.rest, test.long)) in
    let octets : take n d.rest ≡ counted.octets = rw counted.front (take_at counted.octets e.rest n test.long) in
    let is : is_text (take n d.rest) ≡ true = rw octets test.is in
    let value : v ≡ take (n - 1) d.rest = test.front ∙ rw (← octets) (front_of_front n d.rest enough) in
    let after : e ≡ skip n d = cursor_is e (skip n d) counted.order (counted.at ∙ rw test.long refl)
    (rw counted.front (sym (drop_at counted.octets e.rest n test.long))) in
    record { first = n; middle = d; front = (f.front, enough); back = (rw is refl, (rw (← test.shorter) t.spells.1, (value, after))) }

abbrev no_text : ℕ → Cursor → ℕ → Cursor → CdrFault → Type 0
no_text bound c n d f =
    ((not (is_text (take n d.rest)) ≡ true) × (f ≡ fault (place 4 c) BadString))
    ⊎ ((not (is_text (take n d.rest)) ≡ false) × (((passes bound (n - 1) ≡ true) × (f ≡ fault (place 4 c) BoundPassed)) ⊎ ((passes bound (n - 1) ≡ false) × ⊥)))

string_refused_to : (bound : ℕ) (c : Cursor) (e : CdrFault) → FirstRefused Counts RefusedCount (no_text bound c) c e → RefusedString bound c e
string_refused_to bound c e why = elim why [
  | inl short ↦ inl short
  | inr b ↦ elim b.back [
    | inl bad ↦ inr (record { first = b.first; middle = b.middle; front = b.front; back = inl (not-true _ bad.0, bad.1) })
    | inr long ↦ elim long.1 [
      | inl many ↦ inr (record { first = b.first; middle = b.middle; front = b.front; back = inr (not-false _ long.0, many.0, many.1) })
      | inr never ↦ absurd never.1
    ]
  ]
]

string_refused_from : (bound : ℕ) (c : Cursor) (e : CdrFault) → RefusedString bound c e → FirstRefused Counts RefusedCount (no_text bound c) c e
string_refused_from bound c e why = elim why [
  | inl short ↦ inl short
  | inr b ↦ elim b.back [
    | inl bad ↦ inr (record { first = b.first; middle = b.middle; front = b.front; back = inl (rw bad.0 refl, bad.1) })
    | inr long ↦ inr (record { first = b.first; middle = b.middle; front = b.front; back = inr (rw long.0 refl, inl (long.1, long.2)) })
  ]
]

pub string_exact : (bound : ℕ) → IsExact (Took (Bounded bound SpellsString)) (RefusedString bound) (string_at bound)
unfolding string_at
string_exact bound c =
    exact_by (InTurn Counts (within bound) c) (Took (Bounded bound SpellsString) c) (FirstRefused Counts RefusedCount (no_text bound c) c)
    (RefusedString bound c)
    (string_at bound c) (string_to bound c) (string_from bound c) (string_refused_to bound c) (string_refused_from bound c)
    (follow_exact Counts RefusedCount (within bound) (no_text bound c) c (count_at c)
    (λ n d. if not (is_text (take n d.rest)) then Err (fault (place 4 c) BadString)
    else if passes bound (n - 1) then Err (fault (place 4 c) BoundPassed) else Ok (take (n - 1) d.rest, skip n d)) (count_exact c)
    (λ n d t. guard_exact (not (is_text (take n d.rest))) (fault (place 4 c) BadString)
    (λ v e. (passes bound (n - 1) ≡ false) × ((v ≡ take (n - 1) d.rest) × (e ≡ skip n d)))
    (λ f. ((passes bound (n - 1) ≡ true) × (f ≡ fault (place 4 c) BoundPassed)) ⊎ ((passes bound (n - 1) ≡ false) × ⊥))
    (if passes bound (n - 1) then Err (fault (place 4 c) BoundPassed) else Ok (take (n - 1) d.rest, skip n d))
    (guard_exact (passes bound (n - 1)) (fault (place 4 c) BoundPassed) (λ v e. (v ≡ take (n - 1) d.rest) × (e ≡ skip n d)) (λ _. ⊥)
    (Ok (take (n - 1) d.rest, skip n d)) (known_exact (take (n - 1) d.rest) (skip n d)))))
