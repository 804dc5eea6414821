-- A field that is read is a field that is spelled.
use Rattle.std.proofs.Common.{◌≡◌, ℕ, ℤ, ◌+◌, ◌<◌, ◌≤◌, inl, inr, List, ◌++◌, length, take, drop, Ok, Err, refl, sym, ap, subst, ◌∙◌, append_assoc, length-append, length-drop, arith}
use Rattle.std.proofs.Math.Seq.{take-add}
use Rattle.std.proofs.lemmas.Bool.{cases_lt, lt-ltb, le-ltb}
use Rattle.std.proofs.lemmas.List.{take_at, drop_at, length-take-le, take-append-drop}
use Rattle.std.specs.Int.{Width, byte_len, cast_signed}
use Rattle.giop_cdr.specs.declared.order.Order.{Order}
use Rattle.giop_cdr.specs.declared.fault.CdrKind.TheVariants.{Short}
use Rattle.giop_cdr.specs.Reading.Cursor.{Cursor, num, pad, place, skip}
use Rattle.giop_cdr.specs.Reading.Values.{Reading, ◌>>=◌, fault, field_at, number_at, signed_at}
use Rattle.giop_cdr.specs.Spelling.{SpellsField, SpellsNumber, SpellsSigned}
use Rattle.giop_cdr.specs.Reading.Exactness.{Took, IsExact, IsExactHere, RefusedShort}
use Rattle.giop_cdr.proofs.Reading.Stretches.{cursor_is}

-- a field and what it means
abbrev pub meant_at : {A : Type 0} (n : ℕ) (meaning : Order → List ℕ → A) → Cursor → Reading A
meant_at n meaning c = field_at n c >>= λ x. Ok (meaning x.1.order x.0, x.1)

meant_short : {A : Type 0} (n : ℕ) (meaning : Order → List ℕ → A) (c : Cursor) → length c.rest < pad n c.at + n
    → meant_at n meaning c ≡ Err (fault (place n c) Short)
unfolding field_at
meant_short n meaning c less = rw (lt-ltb _ _ less) refl

meant_there : {A : Type 0} (n : ℕ) (meaning : Order → List ℕ → A) (c : Cursor) → pad n c.at + n ≤ length c.rest
    → meant_at n meaning c ≡ Ok (meaning c.order (take n (drop (pad n c.at) c.rest)), skip (pad n c.at + n) c)
unfolding field_at
meant_there n meaning c enough = rw (le-ltb _ _ enough) refl

took_field : {A : Type 0} (n : ℕ) (meaning : Order → List ℕ → A) (c : Cursor) → pad n c.at + n ≤ length c.rest
    → Took (SpellsField n meaning) c (meaning c.order (take n (drop (pad n c.at) c.rest))) (skip (pad n c.at + n) c)
took_field n meaning c enough = record {
  octets = take (pad n c.at + n) c.rest;
  front = sym (take-append-drop (pad n c.at + n) c.rest);
  at = rw (length-take-le (pad n c.at + n) c.rest enough) refl;
  order = refl;
  spells = record {
    pads = take (pad n c.at) c.rest;
    octets = take n (drop (pad n c.at) c.rest);
    padded = length-take-le (pad n c.at) c.rest (omega arith);
    few = length-take-le n (drop (pad n c.at) c.rest) (omega (arith, length-drop (pad n c.at) c.rest));
    whole = take-add (pad n c.at) n c.rest;
    value = refl;
  };
}

took_is_there : {A : Type 0} (n : ℕ) (meaning : Order → List ℕ → A) (c : Cursor) (v : A) (d : Cursor)
    → Took (SpellsField n meaning) c v d → meant_at n meaning c ≡ Ok (v, d)
took_is_there n meaning c v d t =
    let s = t.spells in
    let rest : c.rest ≡ s.pads ++ (s.octets ++ d.rest) = t.front ∙ rw s.whole (append_assoc s.pads s.octets d.rest) in
    let long : length t.octets ≡ pad n c.at + n = rw s.whole (omega (arith, length-append s.pads s.octets, s.padded, s.few)) in
    let enough : pad n c.at + n ≤ length c.rest = rw t.front (omega (arith, length-append t.octets d.rest)) in
    let behind_pads : drop (pad n c.at) c.rest ≡ s.octets ++ d.rest = rw rest (drop_at s.pads (s.octets ++ d.rest) (pad n c.at) s.padded) in
    let octets : take n (drop (pad n c.at) c.rest) ≡ s.octets = rw behind_pads (take_at s.octets d.rest n s.few) in
    let behind : drop (pad n c.at + n) c.rest ≡ d.rest = rw t.front (drop_at t.octets d.rest (pad n c.at + n) long) in
    let after : skip (pad n c.at + n) c ≡ d = cursor_is (skip (pad n c.at + n) c) d (sym t.order) (omega (arith, t.at)) behind in
    meant_there n meaning c enough ∙ rw (after, octets, ← s.value) refl

pub field_exact : {A : Type 0} (n : ℕ) (meaning : Order → List ℕ → A) → IsExact (Took (SpellsField n meaning)) (RefusedShort n) (meant_at n meaning)
field_exact {A} n meaning c = record {
  found = λ v d h. elim (cases_lt (length c.rest) (pad n c.at + n)) [
    | inl less ↦ let short = meant_short n meaning c less in absurd cc
    | inr enough ↦
        let there : (Ok (meaning c.order (take n (drop (pad n c.at) c.rest)), skip (pad n c.at + n) c)) ≡ (Ok (v, d))
        = sym (meant_there n meaning c enough) ∙ h in
        let same : (meaning c.order (take n (drop (pad n c.at) c.rest)), skip (pad n c.at + n) c) ≡ (v, d) = cc in
        subst (λ (p : A × Cursor). Took (SpellsField n meaning) c p.0 p.1) same (took_field n meaning c enough)
  ];
  only = λ v d t. took_is_there n meaning c v d t;
  refused = λ e h. elim (cases_lt (length c.rest) (pad n c.at + n)) [
    | inl less ↦ let short = meant_short n meaning c less in (less, cc)
    | inr enough ↦ let there = meant_there n meaning c enough in absurd cc
  ];
  refuses = λ e why. meant_short n meaning c why.0 ∙ ap Err (sym why.1);
}

pub number_exact : (w : Width) → IsExact (Took (SpellsNumber w)) (RefusedShort (byte_len w)) (number_at w)
unfolding number_at
number_exact w c = field_exact (byte_len w) (λ o octets. num o w octets) c

abbrev unsigned_of : Width → List ℕ × Cursor → Reading ℕ
unsigned_of w x = Ok (num x.1.order w x.0, x.1)

abbrev signed_of : Width → List ℕ × Cursor → Reading ℤ
signed_of w x = Ok (cast_signed w (num x.1.order w x.0), x.1)

abbrev cast_of : Width → ℕ × Cursor → Reading ℤ
cast_of w n = Ok (cast_signed w n.0, n.1)

signed_is : (w : Width) (r : Reading (List ℕ)) → ((r >>= unsigned_of w) >>= cast_of w) ≡ (r >>= signed_of w)
signed_is w (Ok x) = refl
signed_is w (Err e) = refl

pub signed_exact : (w : Width) → IsExact (Took (SpellsSigned w)) (RefusedShort (byte_len w)) (signed_at w)
unfolding signed_at number_at
signed_exact w c =
    let exact = field_exact (byte_len w) (λ o octets. cast_signed w (num o w octets)) c in
    subst (λ (r : Reading ℤ). IsExactHere (Took (SpellsSigned w) c) (RefusedShort (byte_len w) c) r) (sym (signed_is w (field_at (byte_len w) c))) exact
