-- A value has no more leaves than octets spell it.
use Rattle.std.proofs.Common.{◌≡◌, ◌≤◌, ◌<◌, ℕ, zero, suc, ◌+◌, ℤ, nat_lt, ◌&&◌, max, Bool, true, false, List}
use Rattle.std.proofs.Common.{[], ◌∷◌, length, refl, ap, ◌∙◌, length-append, arith}
use Rattle.giop_cdr.specs.declared.order.Order.{Order}
use Rattle.giop_cdr.specs.Spelling.{Spelling, SpellsString, SpellsOctets, SpellsEach, CountedItems}
use Rattle.giop_cdr.specs.Spelling.{CountedText, Bounded}
use Rattle.giop_types.specs.Descriptions.Shape.{Shape, boolean, octet, char, short, ushort, long, ulong, longlong}
use Rattle.giop_types.specs.Descriptions.Shape.{ulonglong, text, octets, labels, members, choice, items, row, Fields}
use Rattle.giop_types.specs.Descriptions.Shape.{no_fields, field, Branches, no_branches, branch}
use Rattle.giop_types.specs.Values.Tree.{Tree, boolean_of, octet_of, char_of, short_of, ushort_of, long_of, ulong_of}
use Rattle.giop_types.specs.Values.Tree.{longlong_of, ulonglong_of, text_of, octets_of, label_of, members_of}
use Rattle.giop_types.specs.Values.Tree.{items_of, row_of}
use Rattle.giop_types.specs.Values.Views.{trees_of}
use Rattle.giop_types.specs.Coding.Decoding.{is_label}
use Rattle.giop_types.specs.Coding.Spells.{As, Chosen, SpellsBounded, Spells, SpellsFields, SpellsBranches}
use Rattle.giop_types.specs.Descriptions.Full.{is_discriminant, has_fields, is_full, are_full, all_full}
use Rattle.giop_types.specs.Values.Leaves.{leaves, leaves_of}
use Rattle.giop_types.proofs.Coding.Takes.{and_parts, shape_takes, label_takes}

-- a measure of what is spelled is no more than its octets
abbrev Within : {A : Type 0} → (A → ℕ) → Spelling A → Type 0
Within {A} size P = (o : Order) (at : ℕ) (v : A) (b : List ℕ) → P o at v b → size v ≤ length b

-- two parts, the first of which takes so many octets at least
as_within : {A B : Type 0} (f : A → B) (P : Spelling A) (size : B → ℕ) → Within (λ v. size (f v)) P → Within size (As f P)
as_within f P size within o at v b s =
    let whole : length b ≡ length s.front + length s.back = ap length s.whole ∙ length-append s.front s.back in
    let front : size (f s.first) ≤ length s.front = within o at s.first s.front s.spells_front in
    rw s.spells_back.0 (omega arith)

one_leaf : {A : Type 0} (f : A → Tree) (P : Spelling A) → ((v : A) → leaves (f v) ≡ 1)
    → ((o : Order) (at : ℕ) (t : Tree) (b : List ℕ) → As f P o at t b → 0 < length b) → Within leaves (As f P)
one_leaf f P one takes o at t b s =
    let some : 0 < length b = takes o at t b s in
    rw (s.spells_back.0, one s.first) (omega arith)

text_within : (n : ℕ) → Within (λ (t : List ℕ). length t) (CountedText n)
text_within zero o at v b s = rw (s.0, s.1) (omega arith)
text_within (suc n) o at v b s =
    let whole : length b ≡ length v + 1 = ap length s.1 ∙ length-append v (0 ∷ []) in
    omega arith

string_within : (bound : ℕ) → Within (λ (t : List ℕ). max 1 (length t)) (Bounded bound SpellsString)
string_within bound o at v b s =
    let t = s.0 in
    let whole : length b ≡ length t.front + length t.back = ap length t.whole ∙ length-append t.front t.back in
    let number = t.spells_front in
    let four : length t.front ≡ length number.pads + length number.octets = ap length number.whole ∙ length-append number.pads number.octets in
    let text : length v ≤ length t.back = text_within t.first o (at + length t.front) v t.back t.spells_back in
    omega (arith, number.few)

octets_within : (bound : ℕ) → Within (λ (t : List ℕ). max 1 (length t)) (Bounded bound SpellsOctets)
octets_within bound o at v b s =
    let t = s.0 in
    let whole : length b ≡ length t.front + length t.back = ap length t.whole ∙ length-append t.front t.back in
    let number = t.spells_front in
    let four : length t.front ≡ length number.pads + length number.octets = ap length number.whole ∙ length-append number.pads number.octets in
    let counted : length t.back ≡ length v = ap length t.spells_back.1 in
    omega (arith, number.few)

each_within : (P : Spelling Tree) → Within leaves P → Within (λ (ts : List Tree). leaves_of (trees_of ts)) (SpellsEach P)
each_within P within o at [] b s = omega arith
each_within P within o at (t ∷ ts) b s =
    let first : leaves t ≤ length s.0 = within o at t s.0 s.3 in
    let others : leaves_of (trees_of ts) ≤ length s.1 = each_within P within o (at + length s.0) ts s.1 s.4 in
    let whole : length b ≡ length s.0 + length s.1 = ap length s.2 ∙ length-append s.0 s.1 in
    omega arith

bounded_within : (bound : ℕ) (P : Spelling Tree) → Within leaves P → Within (λ (ts : List Tree). max 1 (leaves_of (trees_of ts))) (SpellsBounded bound P)
bounded_within bound P within o at vs b s =
    let whole : length b ≡ length s.front + length s.back = ap length s.whole ∙ length-append s.front s.back in
    let number = s.spells_front.0 in
    let four : length s.front ≡ length number.pads + length number.octets = ap length number.whole ∙ length-append number.pads number.octets in
    let each : leaves_of (trees_of vs) ≤ length s.back = each_within P within o (at + length s.front) vs s.back s.spells_back.1 in
    omega (arith, number.few)

chosen_within : (b : Bool) (P : Spelling Tree) (Q : Spelling (List Tree)) → Within leaves P → Within (λ (ts : List Tree). leaves_of (trees_of ts)) Q
    → Within (λ (ts : List Tree). leaves_of (trees_of ts)) (Chosen b (As (λ t. t ∷ []) P) Q)
chosen_within true P Q one others = λ o at ts b s.
    let whole : length b ≡ length s.front + length s.back = ap length s.whole ∙ length-append s.front s.back in
    let first : leaves s.first ≤ length s.front = one o at s.first s.front s.spells_front in
    rw s.spells_back.0 (omega arith)
chosen_within false P Q one others = others

mutual
  unfolding Spells is_full

  pub shape_within : (s : Shape) → is_full s ≡ true → Within leaves (Spells s)
  shape_within boolean h = one_leaf boolean_of _ (λ v. refl) (shape_takes boolean h)
  shape_within octet h = one_leaf octet_of _ (λ v. refl) (shape_takes octet h)
  shape_within char h = one_leaf char_of _ (λ v. refl) (shape_takes char h)
  shape_within short h = one_leaf short_of _ (λ v. refl) (shape_takes short h)
  shape_within ushort h = one_leaf ushort_of _ (λ v. refl) (shape_takes ushort h)
  shape_within long h = one_leaf long_of _ (λ v. refl) (shape_takes long h)
  shape_within ulong h = one_leaf ulong_of _ (λ v. refl) (shape_takes ulong h)
  shape_within longlong h = one_leaf longlong_of _ (λ v. refl) (shape_takes longlong h)
  shape_within ulonglong h = one_leaf ulonglong_of _ (λ v. refl) (shape_takes ulonglong h)
  shape_within (text bound) h = as_within text_of (Bounded bound SpellsString) leaves (string_within bound)
  shape_within (octets bound) h = as_within octets_of (Bounded bound SpellsOctets) leaves (octets_within bound)
  shape_within (labels names) h = one_leaf label_of _ (λ v. refl) (shape_takes (labels names) h)
  shape_within (members fs) h =
      as_within (λ ts. members_of (trees_of ts)) (SpellsFields fs) leaves (fields_within fs (and_parts (has_fields fs) (are_full fs) h).1)
  shape_within (choice disc bs other) h =
      let parts = and_parts (is_discriminant disc) (all_full bs && are_full other) h in
      let full = and_parts (all_full bs) (are_full other) parts.1 in
      λ o at t b s.
      let whole : length b ≡ length s.front + length s.back = ap length s.whole ∙ length-append s.front s.back in
      let label : 0 < length s.front = label_takes disc o at s.first s.front s.spells_front in
      let m = s.spells_back in
      let inside : length s.back ≡ length m.front + length m.back = ap length m.whole ∙ length-append m.front m.back in
      let member : leaves_of (trees_of m.first) ≤ length m.front
      = branches_within bs full.0 other (fields_within other full.1) s.first o (at + length s.front) m.first m.front m.spells_front in
      rw m.spells_back.0 (omega arith)
  shape_within (items s bound) h =
      as_within (λ ts. items_of (trees_of ts)) (SpellsBounded bound (Spells s)) leaves (bounded_within bound (Spells s) (shape_within s h))
  shape_within (row s n) h =
      as_within (λ ts. row_of (trees_of ts)) (CountedItems (Spells s) n) leaves
      (λ o at vs b s'. each_within (Spells s) (shape_within s (and_parts (nat_lt 0 n) (is_full s) h).1) o at vs b s'.1)

  pub fields_within : (fs : Fields) → are_full fs ≡ true → Within (λ (ts : List Tree). leaves_of (trees_of ts)) (SpellsFields fs)
  fields_within no_fields h = λ o at ts b s. rw s.0 (omega arith)
  fields_within (field name s fs) h =
      let parts = and_parts (is_full s) (are_full fs) h in
      λ o at ts b p.
      let whole : length b ≡ length p.front + length p.back = ap length p.whole ∙ length-append p.front p.back in
      let first : leaves p.first ≤ length p.front = shape_within s parts.0 o at p.first p.front p.spells_front in
      let q = p.spells_back in
      let inside : length p.back ≡ length q.front + length q.back = ap length q.whole ∙ length-append q.front q.back in
      let others : leaves_of (trees_of q.first) ≤ length q.front = fields_within fs parts.1 o (at + length p.front) q.first q.front q.spells_front in
      rw q.spells_back.0 (omega arith)

  pub branches_within : (bs : Branches) → all_full bs ≡ true → (other : Fields) → Within (λ (ts : List Tree). leaves_of (trees_of ts)) (SpellsFields other)
      → (label : ℤ) → Within (λ (ts : List Tree). leaves_of (trees_of ts)) (SpellsBranches bs (SpellsFields other) label)
  branches_within no_branches h other within label = within
  branches_within (branch ls name s bs) h other within label =
      let parts = and_parts (is_full s) (all_full bs) h in
      chosen_within (is_label label ls) (Spells s) (SpellsBranches bs (SpellsFields other) label) (shape_within s parts.0)
      (branches_within bs parts.1 other within label)
