-- Octets between two cursors, joined and compared.
use Rattle.std.proofs.Common.{◌≡◌, ℕ, ◌+◌, List, ◌++◌, length, take, Ok, refl, sym, ap, subst, ◌∙◌, append_assoc, length-append, arith}
use Rattle.std.proofs.lemmas.List.{take_at}
use Rattle.giop_cdr.specs.declared.order.Order.{Order}
use Rattle.giop_cdr.specs.Reading.Cursor.{Cursor}
use Rattle.giop_cdr.specs.Reading.Values.{Reading}
use Rattle.giop_cdr.specs.Spelling.{Spelling, Then, Bounded}
use Rattle.giop_cdr.specs.Reading.Exactness.{Took, InTurn, Refusal, IsExact, StandsAlone}
use Rattle.giop_cdr.proofs.Reading.Answers.{ok_same}

abbrev cursor_of : Order → ℕ → List ℕ → Cursor
cursor_of o at rest = record { order = o; at = at; rest = rest }

cursor_of-same : (o p : Order) (at there : ℕ) (r s : List ℕ) → o ≡ p → at ≡ there → r ≡ s → cursor_of o at r ≡ cursor_of p there s
cursor_of-same o p at there r s e f g = rw (e, f, g) refl

pub cursor_is : (c d : Cursor) → c.order ≡ d.order → c.at ≡ d.at → c.rest ≡ d.rest → c ≡ d
cursor_is c d order at rest = cursor_of-same c.order d.order c.at d.at c.rest d.rest order at rest

-- two values are spelled one after the other as one value and then another
pub follow_from_then : {A B : Type 0} (P : Spelling A) (Q : A → Spelling B) (c : Cursor) (v : B) (e : Cursor)
    → Took (Then P Q) c v e → InTurn (Took P) (λ x. Took (Q x)) c v e
follow_from_then P Q c v e t =
    let s = t.spells in
    record {
      first = s.first;
      middle = record { order = c.order; at = c.at + length s.front; rest = s.back ++ e.rest };
      front = record {
        octets = s.front;
        front = t.front ∙ rw s.whole (append_assoc s.front s.back e.rest);
        at = refl;
        order = refl;
        spells = s.spells_front;
      };
      back = record {
        octets = s.back;
        front = refl;
        at = t.at ∙ rw s.whole (omega (arith, length-append s.front s.back));
        order = t.order;
        spells = s.spells_back;
      };
    }

pub then_from_follow : {A B : Type 0} (P : Spelling A) (Q : A → Spelling B) (c : Cursor) (v : B) (e : Cursor)
    → InTurn (Took P) (λ x. Took (Q x)) c v e → Took (Then P Q) c v e
then_from_follow P Q c v e f =
    let one = f.front in
    let two = f.back in
    let placed : Q f.first c.order (c.at + length one.octets) v two.octets
    = subst (λ (o : Order). Q f.first o (c.at + length one.octets) v two.octets) one.order
    (subst (λ (n : ℕ). Q f.first f.middle.order n v two.octets) one.at two.spells) in
    record {
      octets = one.octets ++ two.octets;
      front = one.front ∙ (ap (λ (r : List ℕ). one.octets ++ r) two.front ∙ sym (append_assoc one.octets two.octets e.rest));
      at = omega (arith, one.at, two.at, length-append one.octets two.octets);
      order = two.order ∙ one.order;
      spells = record { first = f.first; front = one.octets; back = two.octets; whole = refl; spells_front = one.spells; spells_back = placed };
    }

same_ends : (at m n : ℕ) → at + m ≡ at + n → m ≡ n
same_ends at m n e = omega arith

-- what is read exactly stands alone
pub stands_alone : {A : Type 0} (P : Spelling A) (R : Refusal) (read : Cursor → Reading A) → IsExact (Took P) R read → StandsAlone P
stands_alone {A} P R read exact o at v w a b x y spells_v spells_w same =
    let here : Cursor = cursor_of o at (a ++ x) in
    let after_a : Cursor = cursor_of o (at + length a) x in
    let after_b : Cursor = cursor_of o (at + length b) y in
    let one : read here ≡ Ok (v, after_a)
    = (exact here).only v after_a (record { octets = a; front = refl; at = refl; order = refl; spells = spells_v }) in
    let two : read here ≡ Ok (w, after_b)
    = (exact here).only w after_b (record { octets = b; front = same; at = refl; order = refl; spells = spells_w }) in
    let both : (v, after_a) ≡ (w, after_b) = ok_same (v, after_a) (w, after_b) (sym one ∙ two) in
    let long : length b ≡ length a = same_ends at (length b) (length a) (sym (ap (λ (p : A × Cursor). p.1.at) both)) in
    (ap (λ (p : A × Cursor). p.0) both, sym (take_at a x (length a) refl) ∙ (ap (take (length a)) same ∙ take_at b y (length a) long))

-- a bound of 0 is none
pub unbounded_alone : (P : Spelling (List ℕ)) → StandsAlone (Bounded 0 P) → StandsAlone P
unbounded_alone P alone o at v w a b x y spells_v spells_w same = alone o at v w a b x y (spells_v, refl) (spells_w, refl) same
