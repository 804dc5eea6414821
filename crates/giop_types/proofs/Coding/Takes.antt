-- Every value of a full shape takes an octet.
use Rattle.std.proofs.Common.{◌≡◌, ◌≤◌, ◌<◌, ℕ, pos, ◌+◌, nat_lt, not, ◌&&◌, Bool, true, false, List, ◌∷◌}
use Rattle.std.proofs.Common.{length, refl, ap, ◌∙◌, length-append, arith}
use Rattle.std.proofs.lemmas.Bool.{ltb-true}
use Rattle.std.specs.Int.{Width, w8, w16, w32, w64, byte_len}
use Rattle.giop_cdr.specs.declared.order.Order.{Order}
use Rattle.giop_cdr.specs.Reading.Values.{passes}
use Rattle.giop_cdr.specs.Spelling.{Spelling, SpellsField, SpellsNumber, SpellsSigned, SpellsBoolean}
use Rattle.giop_cdr.specs.Spelling.{SpellsString, SpellsOctets, CountedItems, Then, Such, Known, Bounded}
use Rattle.giop_cdr.specs.Reading.Exactness.{TakesOctets}
use Rattle.giop_cdr.proofs.Spelling.SequenceSpelling.{each_is_long}
use Rattle.giop_types.specs.Descriptions.Shape.{Shape, boolean, octet, char, short, ushort, long, ulong, longlong}
use Rattle.giop_types.specs.Descriptions.Shape.{ulonglong, text, octets, labels, members, choice, items, row, Fields}
use Rattle.giop_types.specs.Descriptions.Shape.{no_fields, field}
use Rattle.giop_types.specs.Values.Tree.{Tree, boolean_of, octet_of, char_of, short_of, ushort_of, long_of, ulong_of}
use Rattle.giop_types.specs.Values.Tree.{longlong_of, ulonglong_of, text_of, octets_of, label_of, members_of}
use Rattle.giop_types.specs.Values.Tree.{choice_of, items_of, row_of}
use Rattle.giop_types.specs.Values.Views.{trees_of}
use Rattle.giop_types.specs.Coding.Spells.{As, Nothing, SpellsOrdinal, SpellsBounded, SpellsLabel, Spells}
use Rattle.giop_types.specs.Coding.Spells.{SpellsFields, SpellsBranches}
use Rattle.giop_types.specs.Descriptions.Full.{has_fields, is_full, are_full}

pub and_parts : (a b : Bool) → (a && b) ≡ true → (a ≡ true) × (b ≡ true)
and_parts true true h = (refl, refl)
and_parts true false h = absurd cc
and_parts false b h = absurd cc

then_takes : {A B : Type 0} (P : Spelling A) (Q : A → Spelling B) → TakesOctets P → TakesOctets (Then P Q)
then_takes P Q takes o at v b s =
    let first : 0 < length s.front = takes o at s.first s.front s.spells_front in
    let whole : length b ≡ length s.front + length s.back = ap length s.whole ∙ length-append s.front s.back in
    omega arith

as_takes : {A B : Type 0} (f : A → B) (P : Spelling A) → TakesOctets P → TakesOctets (As f P)
as_takes f P takes = then_takes P (λ v. Known (f v)) takes

field_takes : {A : Type 0} (n : ℕ) (meaning : Order → List ℕ → A) → 0 < n → TakesOctets (SpellsField n meaning)
field_takes n meaning some o at v b s =
    let whole : length b ≡ length s.pads + length s.octets = ap length s.whole ∙ length-append s.pads s.octets in
    omega (arith, s.few)

number_takes : (w : Width) → 0 < byte_len w → TakesOctets (SpellsNumber w)
number_takes w some = field_takes (byte_len w) _ some

signed_takes : (w : Width) → 0 < byte_len w → TakesOctets (SpellsSigned w)
signed_takes w some = field_takes (byte_len w) _ some

boolean_takes : TakesOctets SpellsBoolean
boolean_takes o at v b s = rw s (omega arith)

ordinal_takes : (n : ℕ) → TakesOctets (SpellsOrdinal n)
ordinal_takes n o at v b s = number_takes w32 (omega arith) o at v b s.0

string_takes : (bound : ℕ) → TakesOctets (Bounded bound SpellsString)
string_takes bound o at v b s = then_takes (SpellsNumber w32) _ (number_takes w32 (omega arith)) o at v b s.0

octets_takes : (bound : ℕ) → TakesOctets (Bounded bound SpellsOctets)
octets_takes bound o at v b s = then_takes (SpellsNumber w32) _ (number_takes w32 (omega arith)) o at v b s.0

bounded_takes : (bound : ℕ) (P : Spelling Tree) → TakesOctets (SpellsBounded bound P)
bounded_takes bound P = then_takes (Such (λ n. not (passes bound n)) (SpellsNumber w32)) (CountedItems P)
    (λ o at v b s. number_takes w32 (omega arith) o at v b s.0)

row_takes : (n : ℕ) (P : Spelling Tree) → 0 < n → TakesOctets P → TakesOctets (CountedItems P n)
row_takes n P some takes o at vs b s =
    let long : length vs ≤ length b = each_is_long P takes o at vs b s.1 in
    omega (arith, s.0)

nothing_takes : {A : Type 0} → TakesOctets {A = A} Nothing
nothing_takes o at v b s = absurd s

pub label_takes : (s : Shape) → TakesOctets (SpellsLabel s)
unfolding SpellsLabel
label_takes boolean = as_takes _ SpellsBoolean boolean_takes
label_takes char = as_takes pos (SpellsNumber w8) (number_takes w8 (omega arith))
label_takes short = signed_takes w16 (omega arith)
label_takes ushort = as_takes pos (SpellsNumber w16) (number_takes w16 (omega arith))
label_takes long = signed_takes w32 (omega arith)
label_takes ulong = as_takes pos (SpellsNumber w32) (number_takes w32 (omega arith))
label_takes longlong = signed_takes w64 (omega arith)
label_takes ulonglong = as_takes pos (SpellsNumber w64) (number_takes w64 (omega arith))
label_takes (labels names) = as_takes pos (SpellsOrdinal (length names)) (ordinal_takes (length names))
label_takes octet = nothing_takes
label_takes (text bound) = nothing_takes
label_takes (octets bound) = nothing_takes
label_takes (members fs) = nothing_takes
label_takes (choice disc bs other) = nothing_takes
label_takes (items t bound) = nothing_takes
label_takes (row t n) = nothing_takes

mutual
  unfolding Spells is_full

  pub shape_takes : (s : Shape) → is_full s ≡ true → TakesOctets (Spells s)
  shape_takes boolean h = as_takes boolean_of SpellsBoolean boolean_takes
  shape_takes octet h = as_takes octet_of (SpellsNumber w8) (number_takes w8 (omega arith))
  shape_takes char h = as_takes char_of (SpellsNumber w8) (number_takes w8 (omega arith))
  shape_takes short h = as_takes short_of (SpellsSigned w16) (signed_takes w16 (omega arith))
  shape_takes ushort h = as_takes ushort_of (SpellsNumber w16) (number_takes w16 (omega arith))
  shape_takes long h = as_takes long_of (SpellsSigned w32) (signed_takes w32 (omega arith))
  shape_takes ulong h = as_takes ulong_of (SpellsNumber w32) (number_takes w32 (omega arith))
  shape_takes longlong h = as_takes longlong_of (SpellsSigned w64) (signed_takes w64 (omega arith))
  shape_takes ulonglong h = as_takes ulonglong_of (SpellsNumber w64) (number_takes w64 (omega arith))
  shape_takes (text bound) h = as_takes text_of (Bounded bound SpellsString) (string_takes bound)
  shape_takes (octets bound) h = as_takes octets_of (Bounded bound SpellsOctets) (octets_takes bound)
  shape_takes (labels names) h = as_takes label_of (SpellsOrdinal (length names)) (ordinal_takes (length names))
  shape_takes (members fs) h = as_takes (λ ts. members_of (trees_of ts)) (SpellsFields fs) (members_take fs h)
  shape_takes (choice disc bs other) h = then_takes (SpellsLabel disc)
      (λ label. As (λ ts. choice_of label (trees_of ts)) (SpellsBranches bs (SpellsFields other) label)) (label_takes disc)
  shape_takes (items s bound) h = as_takes (λ ts. items_of (trees_of ts)) (SpellsBounded bound (Spells s)) (bounded_takes bound (Spells s))
  shape_takes (row s n) h =
      let parts = and_parts (nat_lt 0 n) (is_full s) h in
      as_takes (λ ts. row_of (trees_of ts)) (CountedItems (Spells s) n) (row_takes n (Spells s) (ltb-true 0 n parts.0) (shape_takes s parts.1))

  members_take : (fs : Fields) → (has_fields fs && are_full fs) ≡ true → TakesOctets (SpellsFields fs)
  members_take no_fields h = absurd cc
  members_take (field name s fs) h =
      let parts = and_parts (is_full s) (are_full fs) h in
      then_takes (Spells s) (λ t. As (λ ts. t ∷ ts) (SpellsFields fs)) (shape_takes s parts.0)
