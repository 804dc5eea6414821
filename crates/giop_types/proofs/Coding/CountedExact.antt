-- Sequences within a bound, and arrays.
use Rattle.std.proofs.Common.{◌≡◌, ◌≤◌, ◌⊎◌, inl, inr, ℕ, ◌+◌, nat_lt, not, true, false, if◌then◌else◌, List}
use Rattle.std.proofs.Common.{length, Err, refl, ◌∙◌, ap, length-append, arith}
use Rattle.std.proofs.lemmas.Bool.{lt-ltb, le-ltb, ltb-true, ltb-false, not-true}
use Rattle.std.specs.Int.{w32}
use Rattle.giop_cdr.specs.declared.fault.CdrFault.{CdrFault}
use Rattle.giop_cdr.specs.declared.fault.CdrKind.TheVariants.{BadCount, BoundPassed}
use Rattle.giop_cdr.specs.Reading.Cursor.{Cursor, place}
use Rattle.giop_cdr.specs.Reading.Values.{Reading, fault, count_at, items_at, passes}
use Rattle.giop_cdr.specs.Spelling.{Spelling, SpellsNumber, Such, CountedItems}
use Rattle.giop_cdr.specs.Reading.Exactness.{Stretch, Refusal, Took, IsExact, InTurn, Counts, RefusedCount}
use Rattle.giop_cdr.specs.Reading.Exactness.{RefusedAmong, TakesOctets}
use Rattle.giop_cdr.proofs.Reading.Answers.{exact_by, follow_exact, guard_exact}
use Rattle.giop_cdr.proofs.Spelling.CountSpelling.{count_exact}
use Rattle.giop_cdr.proofs.Spelling.SequenceSpelling.{items_exact, each_is_long}
use Rattle.giop_cdr.proofs.Reading.Stretches.{follow_from_then, then_from_follow}
use Rattle.giop_types.specs.Values.Tree.{Tree}
use Rattle.giop_types.specs.Coding.Decoding.{bounded_at, row_at}
use Rattle.giop_types.specs.Coding.Spells.{SpellsBounded}
use Rattle.giop_types.specs.Coding.Refusals.{RefusedBounded, RefusedRow}

-- items that were counted are no more than the octets that they take
items_are_few : (P : Spelling Tree) → TakesOctets P → (n : ℕ) (c : Cursor) (vs : List Tree) (e : Cursor) → Took (CountedItems P n) c vs e → n ≤ length c.rest
items_are_few P takes n c vs e t =
    let long : length vs ≤ length t.octets = each_is_long P takes c.order c.at vs t.octets t.spells.1 in
    let rest : length c.rest ≡ length t.octets + length e.rest = ap length t.front ∙ length-append t.octets e.rest in
    omega (arith, t.spells.0)

abbrev Within : ℕ → Spelling Tree → ℕ → Stretch (List Tree)
Within bound P n d vs e = (passes bound n ≡ false) × Took (CountedItems P n) d vs e

bounded_to : (bound : ℕ) (P : Spelling Tree) (c : Cursor) (vs : List Tree) (e : Cursor)
    → InTurn Counts (Within bound P) c vs e → Took (SpellsBounded bound P) c vs e
bounded_to bound P c vs e f =
    let t = f.front.0 in
    then_from_follow (Such (λ n. not (passes bound n)) (SpellsNumber w32)) (CountedItems P) c vs e (record {
      first = f.first;
      middle = f.middle;
      front = record { octets = t.octets; front = t.front; at = t.at; order = t.order; spells = (t.spells, rw f.back.0 refl) };
      back = f.back.1;
    })

bounded_from : (bound : ℕ) (P : Spelling Tree) → TakesOctets P → (c : Cursor) (vs : List Tree) (e : Cursor)
    → Took (SpellsBounded bound P) c vs e → InTurn Counts (Within bound P) c vs e
bounded_from bound P takes c vs e t =
    let f = follow_from_then (Such (λ n. not (passes bound n)) (SpellsNumber w32)) (CountedItems P) c vs e t in
    let s = f.front in
    record {
      first = f.first;
      middle = f.middle;
      front = (
        record { octets = s.octets; front = s.front; at = s.at; order = s.order; spells = s.spells.0 },
        items_are_few P takes f.first f.middle vs e f.back,
      );
      back = (not-true (passes bound f.first) s.spells.1, f.back);
    }

pub bounded_exact : (bound : ℕ) (P : Spelling Tree) (R : Refusal) (item : Cursor → Reading Tree) → IsExact (Took P) R item → TakesOctets P
    → IsExact (Took (SpellsBounded bound P)) (RefusedBounded bound (Took P) R) (bounded_at item bound)
unfolding bounded_at
bounded_exact bound P R item exact takes c =
    exact_by (InTurn Counts (Within bound P) c) (Took (SpellsBounded bound P) c) (RefusedBounded bound (Took P) R c) (RefusedBounded bound (Took P) R c)
    (bounded_at item bound c) (bounded_to bound P c) (bounded_from bound P takes c) (λ e why. why) (λ e why. why)
    (follow_exact Counts RefusedCount (Within bound P)
    (λ n d f. ((passes bound n ≡ true) × (f ≡ fault (place 4 c) BoundPassed)) ⊎ ((passes bound n ≡ false) × RefusedAmong (Took P) R n d f)) c
    (count_at c) (λ n d. if passes bound n then Err (fault (place 4 c) BoundPassed) else items_at item n d) (count_exact c)
    (λ n d t. guard_exact (passes bound n) (fault (place 4 c) BoundPassed) (Took (CountedItems P n) d) (RefusedAmong (Took P) R n d)
    (items_at item n d) (items_exact P R item exact n d)))

row_refused_to : (P : Spelling Tree) (R : Refusal) (n : ℕ) (c : Cursor) (e : CdrFault)
    → ((nat_lt (length c.rest) n ≡ true) × (e ≡ fault c.at BadCount)) ⊎ ((nat_lt (length c.rest) n ≡ false) × RefusedAmong (Took P) R n c e)
    → RefusedRow n (Took P) R c e
row_refused_to P R n c e why = elim why [
  | inl few ↦ inl (ltb-true (length c.rest) n few.0, few.1)
  | inr among ↦ inr (ltb-false (length c.rest) n among.0, among.1)
]

row_refused_from : (P : Spelling Tree) (R : Refusal) (n : ℕ) (c : Cursor) (e : CdrFault) → RefusedRow n (Took P) R c e
    → ((nat_lt (length c.rest) n ≡ true) × (e ≡ fault c.at BadCount)) ⊎ ((nat_lt (length c.rest) n ≡ false) × RefusedAmong (Took P) R n c e)
row_refused_from P R n c e why = elim why [
  | inl few ↦ inl (lt-ltb (length c.rest) n few.0, few.1)
  | inr among ↦ inr (le-ltb (length c.rest) n among.0, among.1)
]

pub row_exact : (n : ℕ) (P : Spelling Tree) (R : Refusal) (item : Cursor → Reading Tree) → IsExact (Took P) R item → TakesOctets P
    → IsExact (Took (CountedItems P n)) (RefusedRow n (Took P) R) (row_at item n)
unfolding row_at
row_exact n P R item exact takes c =
    exact_by (λ vs e. (nat_lt (length c.rest) n ≡ false) × Took (CountedItems P n) c vs e) (Took (CountedItems P n) c)
    (λ e. ((nat_lt (length c.rest) n ≡ true) × (e ≡ fault c.at BadCount)) ⊎ ((nat_lt (length c.rest) n ≡ false) × RefusedAmong (Took P) R n c e))
    (RefusedRow n (Took P) R c) (row_at item n c)
    (λ vs e t. t.1) (λ vs e t. (le-ltb (length c.rest) n (items_are_few P takes n c vs e t), t)) (row_refused_to P R n c) (row_refused_from P R n c)
    (guard_exact (nat_lt (length c.rest) n) (fault c.at BadCount) (Took (CountedItems P n) c) (RefusedAmong (Took P) R n c) (items_at item n c)
    (items_exact P R item exact n c))
