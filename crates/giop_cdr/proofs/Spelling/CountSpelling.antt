-- Counts, and the octets that they count.
use Rattle.std.proofs.Common.{◌≡◌, ℕ, ◌≤◌, ◌⊎◌, inl, inr, true, false, if◌then◌else◌, ltb, Ok, Err, List, ◌++◌, length, take, refl, sym, subst, ◌∙◌, length-append, arith}
use Rattle.std.proofs.lemmas.Bool.{ltb-true, ltb-false, lt-ltb, le-ltb}
use Rattle.std.proofs.lemmas.List.{take_at, drop_at, length-take-le, take-append-drop}
use Rattle.std.specs.Int.{w32}
use Rattle.giop_cdr.specs.declared.fault.CdrFault.{CdrFault}
use Rattle.giop_cdr.specs.declared.fault.CdrKind.TheVariants.{BadCount, BoundPassed}
use Rattle.giop_cdr.specs.Reading.Cursor.{Cursor, place, skip}
use Rattle.giop_cdr.specs.Reading.Values.{fault, number_at, count_at, octets_at, passes}
use Rattle.giop_cdr.specs.Spelling.{SpellsNumber, CountedOctets, SpellsOctets, Bounded}
use Rattle.giop_cdr.specs.Reading.Exactness.{Took, IsExact, InTurn, FirstRefused, RefusedShort, Counts, RefusedCount, RefusedOctets}
use Rattle.giop_cdr.proofs.Reading.Answers.{follow_exact, guard_exact, known_exact, exact_by}
use Rattle.giop_cdr.proofs.Reading.Stretches.{cursor_is, follow_from_then, then_from_follow}
use Rattle.giop_cdr.proofs.Spelling.FieldSpelling.{number_exact}

-- ---- a count

abbrev not_above : ℕ → Cursor → ℕ → Cursor → Type 0
not_above n d v e = (ltb (length d.rest) n ≡ false) × ((v ≡ n) × (e ≡ d))

abbrev above : Cursor → ℕ → Cursor → CdrFault → Type 0
above c n d f = ((ltb (length d.rest) n ≡ true) × (f ≡ fault (place 4 c) BadCount)) ⊎ ((ltb (length d.rest) n ≡ false) × ⊥)

counts_to : (c : Cursor) (v : ℕ) (d : Cursor) → InTurn (Took (SpellsNumber w32)) not_above c v d → Counts c v d
counts_to c v d f =
    let here : Counts c f.first f.middle = (f.front, ltb-false _ _ f.back.0) in
    subst (λ (n : ℕ). Counts c n d) (sym f.back.1.0) (subst (λ (e : Cursor). Counts c f.first e) (sym f.back.1.1) here)

counts_from : (c : Cursor) (v : ℕ) (d : Cursor) → Counts c v d → InTurn (Took (SpellsNumber w32)) not_above c v d
counts_from c v d t = record { first = v; middle = d; front = t.0; back = (le-ltb _ _ t.1, (refl, refl)) }

refused_to : (c : Cursor) (e : CdrFault) → FirstRefused (Took (SpellsNumber w32)) (RefusedShort 4) (above c) c e → RefusedCount c e
refused_to c e why = elim why [
  | inl short ↦ inl short
  | inr b ↦ elim b.back [
    | inl many ↦ inr (record { first = b.first; middle = b.middle; front = b.front; back = (ltb-true _ _ many.0, many.1) })
    | inr never ↦ absurd never.1
  ]
]

refused_from : (c : Cursor) (e : CdrFault) → RefusedCount c e → FirstRefused (Took (SpellsNumber w32)) (RefusedShort 4) (above c) c e
refused_from c e why = elim why [
  | inl short ↦ inl short
  | inr b ↦ inr (record { first = b.first; middle = b.middle; front = b.front; back = inl (lt-ltb _ _ b.back.0, b.back.1) })
]

pub count_exact : IsExact Counts RefusedCount count_at
unfolding count_at
count_exact c =
    exact_by (InTurn (Took (SpellsNumber w32)) not_above c) (Counts c) (FirstRefused (Took (SpellsNumber w32)) (RefusedShort 4) (above c) c) (RefusedCount c)
    (count_at c) (counts_to c) (counts_from c) (refused_to c) (refused_from c)
    (follow_exact (Took (SpellsNumber w32)) (RefusedShort 4) not_above (above c) c (number_at w32 c)
    (λ n d. if ltb (length d.rest) n then Err (fault (place 4 c) BadCount) else Ok (n, d)) (number_exact w32 c)
    (λ n d t. guard_exact (ltb (length d.rest) n) (fault (place 4 c) BadCount) (λ v e. (v ≡ n) × (e ≡ d)) (λ _. ⊥) (Ok (n, d)) (known_exact n d)))

-- ---- a sequence of octets

abbrev within : ℕ → ℕ → Cursor → List ℕ → Cursor → Type 0
within bound n d v e = (passes bound n ≡ false) × ((v ≡ take n d.rest) × (e ≡ skip n d))

took_counted : (n : ℕ) (d : Cursor) → n ≤ length d.rest → Took (CountedOctets n) d (take n d.rest) (skip n d)
took_counted n d enough = record {
  octets = take n d.rest;
  front = sym (take-append-drop n d.rest);
  at = rw (length-take-le n d.rest enough) refl;
  order = refl;
  spells = (length-take-le n d.rest enough, refl);
}

octets_to : (bound : ℕ) (c : Cursor) (v : List ℕ) (e : Cursor) → InTurn Counts (within bound) c v e → Took (Bounded bound SpellsOctets) c v e
octets_to bound c v e f =
    let n = f.first in
    let counted : Took (CountedOctets n) f.middle v e
    = subst (λ (w : List ℕ). Took (CountedOctets n) f.middle w e) (sym f.back.1.0)
    (subst (λ (d : Cursor). Took (CountedOctets n) f.middle (take n f.middle.rest) d) (sym f.back.1.1) (took_counted n f.middle f.front.1)) in
    let both : Took SpellsOctets c v e = then_from_follow (SpellsNumber w32) CountedOctets c v e
    (record { first = n; middle = f.middle; front = f.front.0; back = counted }) in
    let long : length v ≡ n = counted.spells.0 in
    record { octets = both.octets; front = both.front; at = both.at; order = both.order; spells = (both.spells, rw long f.back.0) }

octets_from : (bound : ℕ) (c : Cursor) (v : List ℕ) (e : Cursor) → Took (Bounded bound SpellsOctets) c v e → InTurn Counts (within bound) c v e
octets_from bound c v e t =
    let f = follow_from_then (SpellsNumber w32) CountedOctets c v e
    (record { octets = t.octets; front = t.front; at = t.at; order = t.order; spells = t.spells.0 }) in
    let n = f.first in
    let d = f.middle in
    let counted = f.back in
    let rest : d.rest ≡ v ++ e.rest = counted.front ∙ rw counted.spells.1 refl in
    let long : length v ≡ n = counted.spells.0 in
    let enough : n ≤ length d.rest = rw rest (omega (arith, length-append v e.rest)) in
    let value : v ≡ take n d.rest = rw rest (sym (take_at v e.rest n long)) in
    let after : e ≡ skip n d = cursor_is e (skip n d) counted.order (counted.at ∙ rw (counted.spells.1, long) refl)
    (rw rest (sym (drop_at v e.rest n long))) in
    record { first = n; middle = d; front = (f.front, enough); back = (rw (← long) t.spells.1, (value, after)) }

abbrev passed : ℕ → Cursor → ℕ → Cursor → CdrFault → Type 0
passed bound c n d f = ((passes bound n ≡ true) × (f ≡ fault (place 4 c) BoundPassed)) ⊎ ((passes bound n ≡ false) × ⊥)

octets_refused_to : (bound : ℕ) (c : Cursor) (e : CdrFault) → FirstRefused Counts RefusedCount (passed bound c) c e → RefusedOctets bound c e
octets_refused_to bound c e why = elim why [
  | inl short ↦ inl short
  | inr b ↦ elim b.back [
    | inl many ↦ inr (record { first = b.first; middle = b.middle; front = b.front; back = many })
    | inr never ↦ absurd never.1
  ]
]

octets_refused_from : (bound : ℕ) (c : Cursor) (e : CdrFault) → RefusedOctets bound c e → FirstRefused Counts RefusedCount (passed bound c) c e
octets_refused_from bound c e why = elim why [
  | inl short ↦ inl short
  | inr b ↦ inr (record { first = b.first; middle = b.middle; front = b.front; back = inl b.back })
]

pub octets_exact : (bound : ℕ) → IsExact (Took (Bounded bound SpellsOctets)) (RefusedOctets bound) (octets_at bound)
unfolding octets_at
octets_exact bound c =
    exact_by (InTurn Counts (within bound) c) (Took (Bounded bound SpellsOctets) c) (FirstRefused Counts RefusedCount (passed bound c) c)
    (RefusedOctets bound c)
    (octets_at bound c) (octets_to bound c) (octets_from bound c) (octets_refused_to bound c) (octets_refused_from bound c)
    (follow_exact Counts RefusedCount (within bound) (passed bound c) c (count_at c)
    (λ n d. if passes bound n then Err (fault (place 4 c) BoundPassed) else Ok (take n d.rest, skip n d)) (count_exact c)
    (λ n d t. guard_exact (passes bound n) (fault (place 4 c) BoundPassed) (λ v e. (v ≡ take n d.rest) × (e ≡ skip n d)) (λ _. ⊥)
    (Ok (take n d.rest, skip n d)) (known_exact (take n d.rest) (skip n d))))
