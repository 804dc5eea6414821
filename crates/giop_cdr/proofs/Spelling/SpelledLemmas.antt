-- Values that are written one after the other spell one value after the other.
use Rattle.std.proofs.Common.{◌≡◌, ℕ, ◌+◌, ◌<◌, ◌^◌, List, [], ◌∷◌, ◌++◌, length, refl, sym, ap, subst, ◌∙◌, append_assoc, length-append, arith}
use Rattle.std.specs.List.{AllByRecursion}
use Rattle.std.proofs.lemmas.List.{append-nil}
use Rattle.std.specs.Int.{w32}
use Rattle.giop_cdr.specs.declared.order.Order.{Order}
use Rattle.giop_cdr.specs.Reading.Cursor.{Cursor}
use Rattle.giop_cdr.specs.Reading.Values.{Reading}
use Rattle.giop_cdr.specs.Spelling.{Spelling, SpellsNumber, SpellsEach, CountedItems, SpellsSequence, Then, Known}
use Rattle.giop_cdr.specs.Reading.Exactness.{Took, Refusal, IsExact}
use Rattle.giop_cdr.specs.Writing.Output.{Output, number_out, items_out, sequence_out}
use Rattle.giop_cdr.specs.RoundTrip.{IsSpelled, IsReadBack}
use Rattle.giop_cdr.proofs.Writing.RoundTripLemmas.{number_back, spelled_is_read_back}

-- what is spelled is read back by a reader that is exact
pub read_back : {A : Type 0} (P : Spelling A) (R : Refusal) (read : Cursor → Reading A) → IsExact (Took P) R read
    → (v : A) (out done : Output) → IsSpelled P v out done → IsReadBack P read v out done
read_back P R read exact v out done s = spelled_is_read_back P R read exact v out done s.part s.octets s.order s.at s.spells

pub spelled_of : {A : Type 0} (P : Spelling A) (read : Cursor → Reading A) (v : A) (out done : Output) → IsReadBack P read v out done → IsSpelled P v out done
spelled_of P read v out done b = record { part = b.part; octets = b.octets; order = b.order; at = b.at; spells = b.spells }

moved : {A : Type 0} (P : Spelling A) (o p : Order) (at there : ℕ) (v : A) (b : List ℕ) → p ≡ o → there ≡ at → P p there v b → P o at v b
moved P o p at there v b order place spells = subst (λ (q : Order). P q at v b) order (subst (λ (n : ℕ). P p n v b) place spells)

-- one value and then another
pub then_spelled : {A B : Type 0} (P : Spelling A) (Q : A → Spelling B) (x : A) (v : B) (out mid done : Output)
    → IsSpelled P x out mid → IsSpelled (Q x) v mid done → IsSpelled (Then P Q) v out done
then_spelled P Q x v out mid done one two = record {
  part = one.part ++ two.part;
  octets = two.octets ∙ (ap (λ (octets : List ℕ). octets ++ two.part) one.octets ∙ append_assoc out.octets one.part two.part);
  order = two.order ∙ one.order;
  at = omega (arith, one.at, two.at, length-append one.part two.part);
  spells = record {
    first = x;
    front = one.part;
    back = two.part;
    whole = refl;
    spells_front = one.spells;
    spells_back = moved (Q x) out.order mid.order (out.at + length one.part) mid.at v two.part one.order one.at two.spells;
  };
}

-- nothing is written of a value that is known
pub known_spelled : {A : Type 0} (x : A) (out : Output) → IsSpelled (Known x) x out out
known_spelled x out = record { part = []; octets = sym (append-nil out.octets); order = refl; at = omega arith; spells = (refl, refl) }

pub items_spelled : {A : Type 0} (P : Spelling A) (item : A → Output → Output) (Fits : A → Type 0)
    → ((v : A) (out : Output) → Fits v → IsSpelled P v out (item v out))
    → (vs : List A) (out : Output) → AllByRecursion Fits vs → IsSpelled (SpellsEach P) vs out (items_out item vs out)
unfolding items_out
items_spelled P item Fits each [] out fit = record { part = []; octets = sym (append-nil out.octets); order = refl; at = omega arith; spells = refl }
items_spelled P item Fits each (v ∷ vs) out fit =
    let mid : Output = item v out in
    let one = each v out fit.0 in
    let two = items_spelled P item Fits each vs mid fit.1 in
    record {
      part = one.part ++ two.part;
      octets = two.octets ∙ (ap (λ (octets : List ℕ). octets ++ two.part) one.octets ∙ append_assoc out.octets one.part two.part);
      order = two.order ∙ one.order;
      at = omega (arith, one.at, two.at, length-append one.part two.part);
      spells = (
        one.part,
        two.part,
        refl,
        one.spells,
        moved (SpellsEach P) out.order mid.order
            (out.at + length one.part) mid.at vs two.part one.order one.at two.spells,
      );
    }

-- a sequence
pub sequence_spelled : {A : Type 0} (P : Spelling A) (item : A → Output → Output) (Fits : A → Type 0)
    → ((v : A) (out : Output) → Fits v → IsSpelled P v out (item v out))
    → (vs : List A) (out : Output) → length vs < 2 ^ 32 → AllByRecursion Fits vs → IsSpelled (SpellsSequence P) vs out (sequence_out item vs out)
unfolding sequence_out
sequence_spelled P item Fits each vs out few fit =
    let count = spelled_of (SpellsNumber w32) _ (length vs) out (number_out w32 (length vs) out) (number_back w32 (length vs) out refl few) in
    let items = items_spelled P item Fits each vs (number_out w32 (length vs) out) fit in
    then_spelled (SpellsNumber w32) (CountedItems P) (length vs) vs out (number_out w32 (length vs) out)
    (items_out item vs (number_out w32 (length vs) out)) count
    (record { part = items.part; octets = items.octets; order = items.order; at = items.at; spells = (refl, items.spells) })
