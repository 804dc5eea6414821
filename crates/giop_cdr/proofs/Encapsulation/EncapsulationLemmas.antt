-- What is written between the beginning and the end of an encapsulation is its content, and is opened again.
use Rattle.std.proofs.Common.{◌≡◌, ℕ, zero, suc, ◌+◌, ◌-◌, ◌<◌, ◌^◌, ◌⊎◌, inl, inr, List, [], ◌∷◌, ◌++◌, length, take, drop, get_or, Ok, Err, refl, sym, ap, subst, ◌∙◌, append_assoc, length-append, arith}
use Rattle.std.proofs.lemmas.List.{append-nil, take_at, drop_at, length-replicate}
use Rattle.std.specs.Prelude.{replicate}
use Rattle.std.specs.Int.{w32}
use Rattle.giop_cdr.specs.declared.order.Order.{Order}
use Rattle.giop_cdr.specs.declared.order.Order.TheVariants.{Big, Little}
use Rattle.giop_cdr.specs.declared.fault.CdrFault.{CdrFault}
use Rattle.giop_cdr.specs.declared.fault.CdrKind.TheVariants.{Short, BadOrder}
use Rattle.giop_cdr.specs.Reading.Cursor.{Cursor, pad, place}
use Rattle.giop_cdr.specs.Reading.Values.{fault, octets_at}
use Rattle.giop_cdr.specs.Spelling.{Spelling, SpellsOctets, Then}
use Rattle.giop_cdr.specs.Reading.Exactness.{Took, InTurn, FirstRefused, RefusedOctets, IsExact, IsExactHere}
use Rattle.giop_cdr.specs.Writing.Output.{Output, octets_of, number_out, octets_out}
use Rattle.giop_cdr.specs.Encapsulation.Opened.{order_octet, content_of, opened_of, encapsulation_at, Opens, SpellsEncapsulation, RefusedEncapsulation, opened, place_opened, closed}
use Rattle.giop_cdr.specs.RoundTrip.{IsReadBack}
use Rattle.giop_cdr.proofs.Reading.Answers.{follow_exact, exact_by, ok_same}
use Rattle.giop_cdr.proofs.Reading.Stretches.{cursor_is, follow_from_then, then_from_follow}
use Rattle.giop_cdr.proofs.Spelling.CountSpelling.{octets_exact}
use Rattle.giop_cdr.proofs.Spelling.Composing.{unbounded_exact}
use Rattle.giop_cdr.proofs.Writing.RoundTripLemmas.{octets_back, spelled_is_read_back}
use Rattle.giop_cdr.proofs.Writing.WrittenNumbers.{length-octets_of}

abbrev output_of : Order → ℕ → List ℕ → Output
output_of o at octets = record { order = o; at = at; octets = octets }

output_of-same : (o : Order) (at there : ℕ) (a b : List ℕ) → at ≡ there → a ≡ b → output_of o at a ≡ output_of o there b
output_of-same o at there a b p q = rw (p, q) refl

length-zeros : (n : ℕ) → length (replicate {A = ℕ} n 0) ≡ n
length-zeros n = length-replicate n 0

-- the end of an encapsulation makes a sequence of octets of what was written
pub closed_is_octets : (order : Order) (out now : Output) (content : List ℕ)
    → now.octets ≡ (opened order out).octets ++ content → closed (place_opened out) now ≡ octets_out (order_octet order ∷ content) out
unfolding opened place_opened closed octets_out number_out
closed_is_octets order out now content grown =
    let zeros : List ℕ = replicate (pad 4 out.at) 0 in
    let before : List ℕ = out.octets ++ zeros in
    let inside : List ℕ = order_octet order ∷ content in
    let len : ℕ = length out.octets + (pad 4 out.at + 4) in
    let parts : now.octets ≡ (before ++ replicate 4 0) ++ inside = grown ∙ simp append_assoc in
    let ahead : length before ≡ length out.octets + pad 4 out.at = omega (arith, length-append out.octets zeros, length-zeros (pad 4 out.at)) in
    let front : length (before ++ replicate 4 0) ≡ len = omega (arith, length-append before (replicate 4 0), ahead) in
    let long : length now.octets ≡ len + length inside = ap length parts ∙ (length-append (before ++ replicate 4 0) inside ∙ rw front refl) in
    let kept : take (len - 4) now.octets ≡ before = ap (take (len - 4)) (parts ∙ append_assoc before (replicate 4 0) inside)
    ∙ take_at before (replicate 4 0 ++ inside) (len - 4) (omega (arith, ahead)) in
    let behind : drop len now.octets ≡ inside = ap (drop len) parts ∙ drop_at (before ++ replicate 4 0) inside len front in
    let counted : length now.octets - len ≡ length inside = omega (arith, long) in
    let count : List ℕ = octets_of out.order w32 (length inside) in
    let field : length (zeros ++ count) ≡ pad 4 out.at + 4
    = omega (arith, length-append zeros count, length-zeros (pad 4 out.at), length-octets_of out.order w32 (length inside)) in
    rw (kept, behind, counted) (output_of-same out.order (out.at + (pad 4 out.at + 4) + length inside) (out.at + length (zeros ++ count) + length inside)
    (before ++ (count ++ inside)) ((out.octets ++ (zeros ++ count)) ++ inside) (rw field refl) (simp append_assoc))

-- ---- opening

zero_octet : (o : Order) (octets : List ℕ) (after : Cursor) (at : ℕ) → opened_of at (order_octet o ∷ octets) after ≡ Ok (content_of o octets, after)
zero_octet Big octets after at = refl
zero_octet Little octets after at = refl

abbrev opens_as : List ℕ → Cursor → Cursor → Cursor → Type 0
opens_as octets d v e = (Opens octets v) × (e ≡ d)

abbrev opens_not : Cursor → List ℕ → Cursor → CdrFault → Type 0
opens_not c octets d f = ((octets ≡ []) × (f ≡ fault (place 4 c + 4) Short)) ⊎ ((1 < get_or octets 0 0) × (f ≡ fault (place 4 c + 4) BadOrder))

opens_to : (c d : Cursor) (octets : List ℕ) (v e : Cursor) → opens_as octets d v e → opened_of (place 4 c + 4) octets d ≡ Ok (v, e)
opens_to c d octets v e m = rw (m.0.whole, m.0.value, m.1) (zero_octet m.0.order m.0.content d (place 4 c + 4))

opening_exact : (c d : Cursor) (octets : List ℕ) → IsExactHere (opens_as octets d) (opens_not c octets d) (opened_of (place 4 c + 4) octets d)
opening_exact c d [] = record {
  found = λ v e h. absurd cc;
  only = λ v e m. let w = m.0.whole in absurd cc;
  refused = λ e h. inl (refl, cc);
  refuses = λ e why. elim why [ inl r ↦ ap Err (sym r.1) | inr r ↦ absurd (omega (arith, r.0)) ];
}
opening_exact c d (zero ∷ octets) = record {
  found = λ v e h.
      let same : (content_of Big octets, d) ≡ (v, e) = ok_same (content_of Big octets, d) (v, e) h in (
        record { order = Big; content = octets; whole = refl; value = ap (λ (p : Cursor × Cursor). p.0) (sym same) },
        ap (λ (p : Cursor × Cursor). p.1)
            (sym same),
      );
  only = λ v e m. opens_to c d (zero ∷ octets) v e m;
  refused = λ e h. absurd cc;
  refuses = λ e why. elim why [ inl r ↦ absurd cc | inr r ↦ absurd (omega (arith, r.0)) ];
}
opening_exact c d (suc zero ∷ octets) = record {
  found = λ v e h.
      let same : (content_of Little octets, d) ≡ (v, e) = ok_same (content_of Little octets, d) (v, e) h in (
        record { order = Little; content = octets; whole = refl; value = ap (λ (p : Cursor × Cursor). p.0) (sym same) },
        ap (λ (p : Cursor × Cursor). p.1)
            (sym same),
      );
  only = λ v e m. opens_to c d (suc zero ∷ octets) v e m;
  refused = λ e h. absurd cc;
  refuses = λ e why. elim why [ inl r ↦ absurd cc | inr r ↦ absurd (omega (arith, r.0)) ];
}
opening_exact c d (suc (suc k) ∷ octets) = record {
  found = λ v e h. absurd cc;
  only = λ v e m. opens_to c d (suc (suc k) ∷ octets) v e m;
  refused = λ e h. inr (omega arith, cc);
  refuses = λ e why. elim why [ inl r ↦ absurd cc | inr r ↦ ap Err (sym r.1) ];
}

-- a value of which the octets are known, and nothing behind them
pub ended_to : {A B : Type 0} (P : Spelling B) (M : B → A → Type 0) (c : Cursor) (v : A) (e : Cursor)
    → InTurn (Took P) (λ x d w f. M x w × (f ≡ d)) c v e → Took (Then P (λ x o at w b. M x w × (b ≡ []))) c v e
ended_to P M c v e f = then_from_follow P (λ x o at w b. M x w × (b ≡ [])) c v e (record {
  first = f.first;
  middle = f.middle;
  front = f.front;
  back = record {
    octets = [];
    front = rw f.back.1 refl;
    at = rw f.back.1 (omega arith);
    order = rw f.back.1 refl;
    spells = (f.back.0, refl);
  };
})

pub ended_from : {A B : Type 0} (P : Spelling B) (M : B → A → Type 0) (c : Cursor) (v : A) (e : Cursor)
    → Took (Then P (λ x o at w b. M x w × (b ≡ []))) c v e → InTurn (Took P) (λ x d w f. M x w × (f ≡ d)) c v e
ended_from P M c v e t =
    let f = follow_from_then P (λ x o at w b. M x w × (b ≡ [])) c v e t in
    let none : f.back.octets ≡ [] = f.back.spells.1 in
    record {
      first = f.first;
      middle = f.middle;
      front = f.front;
      back = (f.back.spells.0, cursor_is e f.middle f.back.order (f.back.at ∙ rw none (omega arith)) (sym (f.back.front ∙ rw none refl)));
    }

any_octets : IsExact (Took SpellsOctets) (RefusedOctets 0) (octets_at 0)
any_octets = unbounded_exact SpellsOctets (RefusedOctets 0) (octets_at 0) (octets_exact 0)

pub encapsulation_exact : IsExact (Took SpellsEncapsulation) RefusedEncapsulation encapsulation_at
unfolding encapsulation_at
encapsulation_exact c = exact_by (InTurn (Took SpellsOctets) opens_as c) (Took SpellsEncapsulation c)
    (FirstRefused (Took SpellsOctets) (RefusedOctets 0) (opens_not c) c) (RefusedEncapsulation c) (encapsulation_at c)
    (λ v e f. ended_to SpellsOctets Opens c v e f) (λ v e t. ended_from SpellsOctets Opens c v e t) (λ e why. why) (λ e why. why)
    (follow_exact (Took SpellsOctets) (RefusedOctets 0) opens_as (opens_not c) c (octets_at 0 c) (λ octets d. opened_of (place 4 c + 4) octets d)
    (any_octets c) (λ octets d t. opening_exact c d octets))

-- what is written between the beginning and the end is what is opened again
pub encapsulation_back : (order : Order) (out now : Output) (content : List ℕ)
    → now.octets ≡ (opened order out).octets ++ content → length content + 1 < 2 ^ 32
    → IsReadBack SpellsEncapsulation encapsulation_at (content_of order content) out (closed (place_opened out) now)
encapsulation_back order out now content grown fits =
    let inside : List ℕ = order_octet order ∷ content in
    let back = octets_back inside out (omega arith) in
    let spelled : SpellsEncapsulation out.order out.at (content_of order content) back.part = record {
      first = inside;
      front = back.part;
      back = [];
      whole = sym (append-nil back.part);
      spells_front = back.spells;
      spells_back = (record { order = order; content = content; whole = refl; value = refl }, refl);
    } in
    subst (λ (done : Output). IsReadBack SpellsEncapsulation encapsulation_at (content_of order content) out done)
    (sym (closed_is_octets order out now content grown))
    (spelled_is_read_back SpellsEncapsulation RefusedEncapsulation encapsulation_at encapsulation_exact (content_of order content) out (octets_out inside out)
    back.part back.octets back.order back.at spelled)
