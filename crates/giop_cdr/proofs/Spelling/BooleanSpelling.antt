-- A boolean that is read is the octet 0 or 1.
use Rattle.std.proofs.Common.{◌≡◌, ℕ, zero, suc, ◌≤◌, ◌==◌, ◌⊎◌, inl, inr, Bool, true, false, if◌then◌else◌, ltb, Ok, Err, List, [], ◌∷◌, ◌++◌, length, refl, sym, ap, subst, ◌∙◌, arith}
use Rattle.std.proofs.lemmas.Bool.{ltb-true, ltb-false, lt-ltb}
use Rattle.std.specs.Int.{w8}
use Rattle.giop_cdr.specs.declared.order.Order.{Order}
use Rattle.giop_cdr.specs.declared.order.Order.TheVariants.{Big, Little}
use Rattle.giop_cdr.specs.declared.fault.CdrFault.{CdrFault}
use Rattle.giop_cdr.specs.declared.fault.CdrKind.TheVariants.{BadBoolean}
use Rattle.giop_cdr.specs.Reading.Cursor.{Cursor, num, pad, place}
use Rattle.giop_cdr.specs.Reading.Values.{fault, number_at, boolean_at}
use Rattle.giop_cdr.specs.Spelling.{SpellsNumber, SpellsBoolean}
use Rattle.giop_cdr.specs.Reading.Exactness.{Stretch, Refusal, Took, IsExact, InTurn, FirstRefused, RefusedShort, RefusedBoolean}
use Rattle.giop_cdr.proofs.Reading.Answers.{follow_exact, guard_exact, known_exact, exact_by}
use Rattle.giop_cdr.proofs.Spelling.FieldSpelling.{number_exact}

pad_one : (at : ℕ) → pad 1 at ≡ 0
pad_one at = omega arith

num_octet : (o : Order) (n : ℕ) → num o w8 (n ∷ []) ≡ n
num_octet Big n = refl
num_octet Little n = refl

octet_alone : (o : Order) (n : ℕ) (pads octets b : List ℕ) → length pads ≡ 0 → length octets ≡ 1 → n ≡ num o w8 octets → b ≡ pads ++ octets → b ≡ n ∷ []
octet_alone o n [] [] b none one value whole = absurd (omega arith)
octet_alone o n [] (x ∷ []) b none one value whole = whole ∙ rw (value, num_octet o x) refl
octet_alone o n [] (x ∷ y ∷ octets) b none one value whole = absurd (omega arith)
octet_alone o n (x ∷ pads) octets b none one value whole = absurd (omega arith)

-- an octet is spelled by itself
pub octet_is : (o : Order) (at n : ℕ) (b : List ℕ) → SpellsNumber w8 o at n b → b ≡ n ∷ []
octet_is o at n b s = octet_alone o n s.pads s.octets b (s.padded ∙ pad_one at) s.few s.value s.whole

spells_octet : (o : Order) (at n : ℕ) → SpellsNumber w8 o at n (n ∷ [])
spells_octet o at n = record { pads = []; octets = n ∷ []; padded = sym (pad_one at); few = refl; whole = refl; value = sym (num_octet o n) }

of_bool : (n : ℕ) → n ≤ 1 → n ≡ (if n == 1 then 1 else 0)
of_bool zero small = refl
of_bool (suc zero) small = refl
of_bool (suc (suc n)) small = absurd (omega arith)

bool_of : (v : Bool) → v ≡ ((if v then 1 else 0) == 1)
bool_of true = refl
bool_of false = refl

no_more : (v : Bool) → ltb 1 (if v then 1 else 0) ≡ false
no_more true = refl
no_more false = refl

abbrev Tested : ℕ → Stretch Bool
Tested n d v e = (ltb 1 n ≡ false) × ((v ≡ (n == 1)) × (e ≡ d))

abbrev Untested : Cursor → ℕ → Refusal
Untested c n d f = ((ltb 1 n ≡ true) × (f ≡ fault (place 1 c) BadBoolean)) ⊎ ((ltb 1 n ≡ false) × ⊥)

boolean_to : (c : Cursor) (v : Bool) (d : Cursor) → InTurn (Took (SpellsNumber w8)) Tested c v d → Took SpellsBoolean c v d
boolean_to c v d f =
    let t : Took (SpellsNumber w8) c f.first d = subst (λ (e : Cursor). Took (SpellsNumber w8) c f.first e) (sym f.back.1.1) f.front in
    let octet : f.first ≡ (if v then 1 else 0) = of_bool f.first (ltb-false 1 f.first f.back.0) ∙ rw f.back.1.0 refl in
    record {
      octets = t.octets;
      front = t.front;
      at = t.at;
      order = t.order;
      spells = octet_is c.order c.at f.first t.octets t.spells ∙ ap (λ (n : ℕ). n ∷ []) octet;
    }

boolean_from : (c : Cursor) (v : Bool) (d : Cursor) → Took SpellsBoolean c v d → InTurn (Took (SpellsNumber w8)) Tested c v d
boolean_from c v d t =
    let n : ℕ = if v then 1 else 0 in
    let spells : SpellsNumber w8 c.order c.at n t.octets = rw t.spells (spells_octet c.order c.at n) in
    record {
      first = n;
      middle = d;
      front = record { octets = t.octets; front = t.front; at = t.at; order = t.order; spells = spells };
      back = (no_more v, (bool_of v, refl));
    }

boolean_refused_to : (c : Cursor) (e : CdrFault) → FirstRefused (Took (SpellsNumber w8)) (RefusedShort 1) (Untested c) c e → RefusedBoolean c e
boolean_refused_to c e why = elim why [
  | inl short ↦ inl short
  | inr b ↦ elim b.back [
    | inl more ↦ inr (record { first = b.first; middle = b.middle; front = b.front; back = (ltb-true _ _ more.0, more.1) })
    | inr never ↦ absurd never.1
  ]
]

boolean_refused_from : (c : Cursor) (e : CdrFault) → RefusedBoolean c e → FirstRefused (Took (SpellsNumber w8)) (RefusedShort 1) (Untested c) c e
boolean_refused_from c e why = elim why [
  | inl short ↦ inl short
  | inr b ↦ inr (record { first = b.first; middle = b.middle; front = b.front; back = inl (lt-ltb _ _ b.back.0, b.back.1) })
]

pub boolean_exact : IsExact (Took SpellsBoolean) RefusedBoolean boolean_at
unfolding boolean_at
boolean_exact c =
    exact_by (InTurn (Took (SpellsNumber w8)) Tested c) (Took SpellsBoolean c) (FirstRefused (Took (SpellsNumber w8)) (RefusedShort 1) (Untested c) c)
    (RefusedBoolean c) (boolean_at c) (boolean_to c) (boolean_from c) (boolean_refused_to c) (boolean_refused_from c)
    (follow_exact (Took (SpellsNumber w8)) (RefusedShort 1) Tested (Untested c) c (number_at w8 c)
    (λ n d. if ltb 1 n then Err (fault (place 1 c) BadBoolean) else Ok (n == 1, d)) (number_exact w8 c)
    (λ n d t. guard_exact (ltb 1 n) (fault (place 1 c) BadBoolean) (λ v e. (v ≡ (n == 1)) × (e ≡ d)) (λ _. ⊥) (Ok (n == 1, d)) (known_exact (n == 1) d)))
