-- Values one after the other, and sequences of them.
use Rattle.std.proofs.Common.{◌≡◌, ℕ, zero, suc, ◌+◌, ◌<◌, ◌≤◌, Ok, List, [], ◌∷◌, ◌++◌, length, refl, sym, ap, subst, ◌∙◌, append_assoc, length-append, arith}
use Rattle.std.specs.Int.{w32}
use Rattle.giop_cdr.specs.declared.order.Order.{Order}
use Rattle.giop_cdr.specs.declared.fault.CdrFault.{CdrFault}
use Rattle.giop_cdr.specs.Reading.Cursor.{Cursor}
use Rattle.giop_cdr.specs.Reading.Values.{Reading, ◌>>=◌, count_at, items_at, sequence_at}
use Rattle.giop_cdr.specs.Spelling.{Spelling, SpellsNumber, SpellsEach, CountedItems, SpellsSequence}
use Rattle.giop_cdr.specs.Reading.Exactness.{Stretch, Refusal, Took, IsExact, IsExactHere, InTurn, FirstRefused, Counts, RefusedCount, RefusedAmong, RefusedSequence, TakesOctets}
use Rattle.giop_cdr.proofs.Reading.Answers.{follow_exact, known_exact, exact_by, bind_elim, bind_fails, ok_same}
use Rattle.giop_cdr.proofs.Reading.Stretches.{cursor_is, follow_from_then, then_from_follow}
use Rattle.giop_cdr.proofs.Spelling.CountSpelling.{count_exact}

-- ---- values one after the other

nothing_to : {A : Type 0} (P : Spelling A) (c : Cursor) (vs : List A) (d : Cursor) → (vs ≡ []) × (d ≡ c) → Took (CountedItems P zero) c vs d
nothing_to {A} P c vs d e =
    let here : Took (CountedItems P zero) c [] c = record { octets = []; front = refl; at = omega arith; order = refl; spells = (refl, refl) } in
    subst (λ (ws : List A). Took (CountedItems P zero) c ws d) (sym e.0) (subst (λ (f : Cursor). Took (CountedItems P zero) c [] f) (sym e.1) here)

nothing_from : {A : Type 0} (P : Spelling A) (c : Cursor) (vs : List A) (d : Cursor) → Took (CountedItems P zero) c vs d → (vs ≡ []) × (d ≡ c)
nothing_from P c [] d t =
    let none : t.octets ≡ [] = t.spells.1 in
    (refl, cursor_is d c t.order (t.at ∙ rw none (omega arith)) (sym (t.front ∙ rw none refl)))
nothing_from P c (v ∷ vs) d t = absurd (omega (arith, t.spells.0))

-- what was read with one value in front
abbrev with_first : {A : Type 0} → A → Reading (List A) → Reading (List A)
with_first x r = r >>= λ others. Ok (x ∷ others.0, others.1)

abbrev Behind : {A : Type 0} → Spelling A → ℕ → A → Stretch (List A)
Behind {A} P n x d vs e = (ws : List A) × (vs ≡ x ∷ ws) × Took (CountedItems P n) d ws e

behind_exact : {A : Type 0} (P : Spelling A) (n : ℕ) (x : A) (d : Cursor) (R : CdrFault → Type 0) (r : Reading (List A))
    → IsExactHere (Took (CountedItems P n) d) R r → IsExactHere (Behind P n x d) R (with_first x r)
behind_exact {A} P n x d R r exact = record {
  found = λ vs e h. bind_elim (Behind P n x d vs e) r (λ others. Ok (x ∷ others.0, others.1)) (vs, e)
      (λ others is f.
      let same : (x ∷ others.0, others.1) ≡ (vs, e) = ok_same (x ∷ others.0, others.1) (vs, e) f in
      let there : Took (CountedItems P n) d others.0 e
      = subst (λ (g : Cursor). Took (CountedItems P n) d others.0 g) (ap (λ (p : List A × Cursor). p.1) same) (exact.found others.0 others.1 is) in
      (others.0, sym (ap (λ (p : List A × Cursor). p.0) same), there)) h;
  only = λ vs e m. rw (exact.only m.0 e m.2, m.1) refl;
  refused = λ e h. bind_fails (R e) r (λ others. Ok (x ∷ others.0, others.1)) e (λ is. exact.refused e is) (λ others is f. absurd cc) h;
  refuses = λ e why. rw (exact.refuses e why) refl;
}

more_to : {A : Type 0} (P : Spelling A) (n : ℕ) (c : Cursor) (vs : List A) (e : Cursor)
    → InTurn (Took P) (Behind P n) c vs e → Took (CountedItems P (suc n)) c vs e
more_to {A} P n c vs e f =
    let one = f.front in
    let others = f.back.0 in
    let two = f.back.2 in
    let placed : SpellsEach P c.order (c.at + length one.octets) others two.octets
    = subst (λ (o : Order). SpellsEach P o (c.at + length one.octets) others two.octets) one.order
    (subst (λ (k : ℕ). SpellsEach P f.middle.order k others two.octets) one.at two.spells.1) in
    let here : Took (CountedItems P (suc n)) c (f.first ∷ others) e = record {
      octets = one.octets ++ two.octets;
      front = one.front ∙ (ap (λ (r : List ℕ). one.octets ++ r) two.front ∙ sym (append_assoc one.octets two.octets e.rest));
      at = omega (arith, one.at, two.at, length-append one.octets two.octets);
      order = two.order ∙ one.order;
      spells = (omega (arith, two.spells.0), (one.octets, two.octets, refl, one.spells, placed));
    } in
    subst (λ (ws : List A). Took (CountedItems P (suc n)) c ws e) (sym f.back.1) here

more_from : {A : Type 0} (P : Spelling A) (n : ℕ) (c : Cursor) (vs : List A) (e : Cursor)
    → Took (CountedItems P (suc n)) c vs e → InTurn (Took P) (Behind P n) c vs e
more_from P n c [] e t = absurd (omega (arith, t.spells.0))
more_from P n c (v ∷ vs) e t =
    let s = t.spells.1 in
    record {
      first = v;
      middle = record { order = c.order; at = c.at + length s.0; rest = s.1 ++ e.rest };
      front = record { octets = s.0; front = t.front ∙ rw s.2 (append_assoc s.0 s.1 e.rest); at = refl; order = refl; spells = s.3 };
      back = (
        vs,
        refl,
        record {
          octets = s.1;
          front = refl;
          at = t.at ∙ rw s.2 (omega (arith, length-append s.0 s.1));
          order = t.order;
          spells = (omega (arith, t.spells.0), s.4);
        },
      );
    }

pub items_exact : {A : Type 0} (P : Spelling A) (R : Refusal) (item : Cursor → Reading A) → IsExact (Took P) R item
    → (n : ℕ) → IsExact (Took (CountedItems P n)) (RefusedAmong (Took P) R n) (items_at item n)
unfolding items_at
items_exact P R item exact zero c = exact_by (λ vs d. (vs ≡ []) × (d ≡ c)) (Took (CountedItems P zero) c) (λ _. ⊥) (RefusedAmong (Took P) R zero c)
    (Ok ([], c)) (nothing_to P c) (nothing_from P c) (λ e never. never) (λ e never. never) (known_exact [] c)
items_exact P R item exact (suc n) c = exact_by (InTurn (Took P) (Behind P n) c) (Took (CountedItems P (suc n)) c)
    (FirstRefused (Took P) R (λ _. RefusedAmong (Took P) R n) c) (RefusedAmong (Took P) R (suc n) c)
    (items_at item (suc n) c) (more_to P n c) (more_from P n c) (λ e why. why) (λ e why. why)
    (follow_exact (Took P) R (Behind P n) (λ _. RefusedAmong (Took P) R n) c (item c) (λ x d. with_first x (items_at item n d)) (exact c)
    (λ x d t. behind_exact P n x d (RefusedAmong (Took P) R n d) (items_at item n d) (items_exact P R item exact n d)))

-- ---- sequences

pub each_is_long : {A : Type 0} (P : Spelling A) → TakesOctets P → (o : Order) (at : ℕ) (vs : List A) (b : List ℕ) → SpellsEach P o at vs b
    → length vs ≤ length b
each_is_long P takes o at [] b e = omega arith
each_is_long P takes o at (v ∷ vs) b e =
    let first : 0 < length e.0 = takes o at v e.0 e.3 in
    let others : length vs ≤ length e.1 = each_is_long P takes o (at + length e.0) vs e.1 e.4 in
    let both : length b ≡ length e.0 + length e.1 = ap length e.2 ∙ length-append e.0 e.1 in
    omega arith

sequence_to : {A : Type 0} (P : Spelling A) (c : Cursor) (vs : List A) (e : Cursor)
    → InTurn Counts (λ n. Took (CountedItems P n)) c vs e → Took (SpellsSequence P) c vs e
sequence_to P c vs e f = then_from_follow (SpellsNumber w32) (CountedItems P) c vs e
    (record { first = f.first; middle = f.middle; front = f.front.0; back = f.back })

sequence_from : {A : Type 0} (P : Spelling A) → TakesOctets P → (c : Cursor) (vs : List A) (e : Cursor)
    → Took (SpellsSequence P) c vs e → InTurn Counts (λ n. Took (CountedItems P n)) c vs e
sequence_from P takes c vs e t =
    let f = follow_from_then (SpellsNumber w32) (CountedItems P) c vs e t in
    let items = f.back in
    let long : length vs ≤ length items.octets = each_is_long P takes f.middle.order f.middle.at vs items.octets items.spells.1 in
    let rest : length f.middle.rest ≡ length items.octets + length e.rest = ap length items.front ∙ length-append items.octets e.rest in
    record { first = f.first; middle = f.middle; front = (f.front, omega (arith, items.spells.0)); back = items }

pub sequence_exact : {A : Type 0} (P : Spelling A) (R : Refusal) (item : Cursor → Reading A) → IsExact (Took P) R item → TakesOctets P
    → IsExact (Took (SpellsSequence P)) (RefusedSequence (Took P) R) (sequence_at item)
unfolding sequence_at
sequence_exact P R item exact takes c = exact_by (InTurn Counts (λ n. Took (CountedItems P n)) c) (Took (SpellsSequence P) c)
    (RefusedSequence (Took P) R c) (RefusedSequence (Took P) R c) (sequence_at item c) (sequence_to P c) (sequence_from P takes c) (λ e why. why) (λ e why. why)
    (follow_exact Counts RefusedCount (λ n. Took (CountedItems P n)) (λ n. RefusedAmong (Took P) R n) c (count_at c) (λ n d. items_at item n d) (count_exact c)
    (λ n d t. items_exact P R item exact n d))
