-- What octets spell is a value that fits.
use Rattle.std.proofs.Common.{◌≡◌, ◌<◌, ◌^◌, ◌+◌, ℕ, zero, suc, ℤ, pos, negsuc, nat_lt, ◌&&◌, ◌==◌, not, Bool, true, false}
use Rattle.std.proofs.Common.{if◌then◌else◌, List, [], ◌∷◌, ◌++◌, length, get_or, refl, sym, ap, ◌∙◌, arith, FitsSigned, min, int_le, int_lt}
use Rattle.std.proofs.lemmas.Bool.{and_from, lt-ltb, ltb-true, le-leb, eqb-true}
use Rattle.std.proofs.lemmas.Bool.Decides.{nat_tests}
use Rattle.std.proofs.lemmas.List.Folds.{list_all-append}
use Rattle.std.proofs.Math.Facts.{sfits_to_z}
use Rattle.std.specs.List.{list_all}
use Rattle.std.specs.Int.{Width, w8, w16, w32, w64, w128}
use mir.Val.{bits, hbits}
use Rattle.giop_cdr.specs.declared.order.Order.{Order}
use Rattle.giop_cdr.specs.declared.order.Order.TheVariants.{Big, Little}
use Rattle.giop_cdr.specs.Reading.Cursor.{num}
use Rattle.giop_cdr.specs.Reading.Values.{has_null, passes}
use Rattle.giop_cdr.specs.RoundTrip.{is_primitive}
use Rattle.giop_cdr.specs.Spelling.{Spelling, SpellsNumber, SpellsSigned, SpellsBoolean, SpellsString, SpellsOctets}
use Rattle.giop_cdr.specs.Spelling.{CountedText, SpellsEach, CountedItems, Bounded}
use Rattle.giop_types.specs.Descriptions.Shape.{Shape, boolean, octet, char, short, ushort, long, ulong, longlong}
use Rattle.giop_types.specs.Descriptions.Shape.{ulonglong, text, octets, labels, members, choice, items, row, Fields}
use Rattle.giop_types.specs.Descriptions.Shape.{no_fields, field, Branches, no_branches, branch}
use Rattle.giop_types.specs.Values.Tree.{Tree, boolean_of, octet_of, char_of, short_of, ushort_of, long_of, ulong_of}
use Rattle.giop_types.specs.Values.Tree.{longlong_of, ulonglong_of, text_of, octets_of, label_of, members_of, items_of, row_of}
use Rattle.giop_types.specs.Values.Tree.{choice_of, Trees, no_trees, tree}
use Rattle.giop_types.specs.Descriptions.Full.{is_full, are_full, has_fields}
use Rattle.giop_types.specs.Values.Leaves.{leaves, leaves_of}
use Rattle.giop_types.specs.Values.Views.{trees_of}
use Rattle.giop_types.specs.Coding.Decoding.{is_label}
use Rattle.giop_types.specs.Descriptions.Checked.{is_between, is_ordinal}
use Rattle.giop_types.specs.Coding.Spells.{As, Chosen, SpellsOrdinal, SpellsBounded, SpellsLabel, Spells, SpellsFields, SpellsBranches}
use Rattle.giop_types.specs.Values.Fits.{list_of, is_unsigned, are_octets, fits_label, is_counted, is_octets_of, is_text_of}
use Rattle.giop_types.specs.Values.Fits.{is_one, fits, fields_fit, branches_fit}
use Rattle.giop_types.proofs.Values.FitLemmas.{list_back}
use Rattle.giop_types.proofs.Coding.Takes.{and_parts}

-- what octets, and nothing else, spell passes a test
abbrev Fitting : {A : Type 0} → Spelling A → (A → Bool) → Type 0
Fitting {A} P test = (o : Order) (at : ℕ) (v : A) (b : List ℕ) → are_octets b ≡ true → P o at v b → test v ≡ true

parted : (whole front back : List ℕ) → whole ≡ front ++ back → are_octets whole ≡ true → (are_octets front ≡ true) × (are_octets back ≡ true)
parted whole front back is all =
    and_parts (are_octets front) (are_octets back) (sym (list_all-append (is_unsigned 8) front back) ∙ ap are_octets (sym is) ∙ all)

octet_at : (bs : List ℕ) → are_octets bs ≡ true → (i : ℕ) → get_or bs i 0 < 256
octet_at [] all zero = omega arith
octet_at [] all (suc i) = omega arith
octet_at (b ∷ bs) all zero = ltb-true b 256 (and_parts (is_unsigned 8 b) (are_octets bs) all).0
octet_at (b ∷ bs) all (suc i) = octet_at bs (and_parts (is_unsigned 8 b) (are_octets bs) all).1 i

-- ---- numbers

num_below : (o : Order) (w : Width) (bs : List ℕ) → is_primitive w ≡ true → ((i : ℕ) → get_or bs i 0 < 256) → num o w bs < 2 ^ bits w
num_below Big w8 bs p h = omega (arith, h 0)
num_below Big w16 bs p h = omega (arith, h 0, h 1)
num_below Big w32 bs p h = omega (arith, h 0, h 1, h 2, h 3)
num_below Big w64 bs p h = omega (arith, h 0, h 1, h 2, h 3, h 4, h 5, h 6, h 7)
num_below Big w128 bs p h = absurd cc
num_below Little w8 bs p h = omega (arith, h 0)
num_below Little w16 bs p h = omega (arith, h 0, h 1)
num_below Little w32 bs p h = omega (arith, h 0, h 1, h 2, h 3)
num_below Little w64 bs p h = omega (arith, h 0, h 1, h 2, h 3, h 4, h 5, h 6, h 7)
num_below Little w128 bs p h = absurd cc

number_fits : (w : Width) → is_primitive w ≡ true → Fitting (SpellsNumber w) (λ n. nat_lt n (2 ^ bits w))
number_fits w p o at v b all s =
    rw s.value (lt-ltb (num o w s.octets) (2 ^ bits w) (num_below o w s.octets p (octet_at s.octets (parted b s.pads s.octets s.whole all).1)))

signed_between : (w : Width) (k : ℕ) → 2 ^ hbits w ≡ k + 1 → (z : ℤ) → FitsSigned w z → is_between (negsuc k) (pos k) z ≡ true
signed_between w k few (pos n) h = and_from true (int_le (pos n) (pos k)) refl (le-leb n k (omega (arith, h.sfits)))
signed_between w k few (negsuc n) h = and_from (int_le (negsuc k) (negsuc n)) true (le-leb n k (omega (arith, h.sfits))) refl

signed_fits : (w : Width) (k : ℕ) → is_primitive w ≡ true → 2 ^ hbits w ≡ k + 1 → Fitting (SpellsSigned w) (is_between (negsuc k) (pos k))
signed_fits w k p few o at v b all s =
    rw s.value (signed_between w k few _
    (sfits_to_z (record { fits = num_below o w s.octets p (octet_at s.octets (parted b s.pads s.octets s.whole all).1) })))

-- ---- parts

as_fits : {A B : Type 0} (f : A → B) (P : Spelling A) (test : B → Bool) → Fitting P (λ v. test (f v)) → Fitting (As f P) test
as_fits f P test fit o at v b all s = rw s.spells_back.0 (fit o at s.first s.front (parted b s.front s.back s.whole all).0 s.spells_front)

ordinal_fits : (names : ℕ) → Fitting (SpellsOrdinal names) (λ n. is_unsigned 32 n && nat_lt n names)
ordinal_fits names o at v b all s = and_from (is_unsigned 32 v) (nat_lt v names) (number_fits w32 refl o at v b all s.0) s.1

unpassed : (b : Bool) → b ≡ false → not b ≡ true
unpassed b h = ap not h

text_fits : (bound n : ℕ) (o : Order) (at : ℕ) (v : List ℕ) (b : List ℕ) → n < 2 ^ 32 → are_octets b ≡ true → passes bound (length v) ≡ false
    → CountedText n o at v b → is_text_of bound v ≡ true
text_fits bound zero o at v b few all within s =
    let within' : passes bound 0 ≡ false = rw s.0 at within in
    rw s.0 (unpassed (passes bound 0) within')
text_fits bound (suc n) o at v b few all within s =
    and_from (are_octets v) _ (parted b v (0 ∷ []) s.1 all).0
    (and_from (not (has_null v)) _ (unpassed (has_null v) s.2)
    (and_from (nat_lt (length v + 1) (2 ^ 32)) _ (lt-ltb (length v + 1) (2 ^ 32) (omega (arith, s.0))) (unpassed (passes bound (length v)) within)))

string_fits : (bound : ℕ) → Fitting (Bounded bound SpellsString) (is_text_of bound)
string_fits bound o at v b all s =
    let t = s.0 in
    let halves = parted b t.front t.back t.whole all in
    text_fits bound t.first o (at + length t.front) v t.back
    (ltb-true t.first (2 ^ 32) (number_fits w32 refl o at t.first t.front halves.0 t.spells_front)) halves.1 s.1 t.spells_back

octets_fits : (bound : ℕ) → Fitting (Bounded bound SpellsOctets) (is_octets_of bound)
octets_fits bound o at v b all s =
    let t = s.0 in
    let halves = parted b t.front t.back t.whole all in
    let few : t.first < 2 ^ 32 = ltb-true t.first (2 ^ 32) (number_fits w32 refl o at t.first t.front halves.0 t.spells_front) in
    and_from (are_octets v) _ (rw t.spells_back.1 at halves.1)
    (and_from (nat_lt (length v) (2 ^ 32)) _ (lt-ltb (length v) (2 ^ 32) (omega (arith, t.spells_back.0))) (unpassed (passes bound (length v)) s.1))

each_fits : (P : Spelling Tree) (test : Tree → Bool) → Fitting P test → Fitting (SpellsEach P) (list_all test)
each_fits P test fit o at [] b all s = refl
each_fits P test fit o at (v ∷ vs) b all s =
    let halves = parted b s.0 s.1 s.2 all in
    and_from (test v) (list_all test vs) (fit o at v s.0 halves.0 s.3) (each_fits P test fit o (at + length s.0) vs s.1 halves.1 s.4)

bounded_fits : (bound : ℕ) (P : Spelling Tree) (test : Tree → Bool) → Fitting P test
    → Fitting (SpellsBounded bound P) (λ ts. is_counted bound (length ts) && list_all test ts)
bounded_fits bound P test fit o at vs b all s =
    let halves = parted b s.front s.back s.whole all in
    let n = s.spells_front in
    let few : s.first < 2 ^ 32 = ltb-true s.first (2 ^ 32) (number_fits w32 refl o at s.first s.front halves.0 n.0) in
    let within : not (passes bound (length vs)) ≡ true = rw s.spells_back.0 n.1 in
    and_from (is_counted bound (length vs)) (list_all test vs)
    (and_from (nat_lt (length vs) (2 ^ 32)) (not (passes bound (length vs))) (lt-ltb (length vs) (2 ^ 32) (omega (arith, s.spells_back.0))) within)
    (each_fits P test fit o (at + length s.front) vs s.back halves.1 s.spells_back.1)

equal : (n k : ℕ) → n ≡ k → (n == k) ≡ true
equal n k same = grind (arith, nat_tests)

-- ---- discriminants

natural_fits : (w : Width) (k : ℕ) → is_primitive w ≡ true → 2 ^ bits w ≡ k + 1 → Fitting (As pos (SpellsNumber w)) (is_between (pos 0) (pos k))
natural_fits w k p few = as_fits pos (SpellsNumber w) (is_between (pos 0) (pos k)) (λ o at n b all s.
    let below : n < 2 ^ bits w = ltb-true n (2 ^ bits w) (number_fits w p o at n b all s) in
    and_from (int_le (pos 0) (pos n)) (int_le (pos n) (pos k)) (le-leb 0 n (omega arith)) (le-leb n k (omega arith)))

ordinal_label : (names n : ℕ) → n < 2 ^ 32 → n < names → is_ordinal (min names (2 ^ 32)) (pos n) ≡ true
ordinal_label names n few lt =
    and_from (int_le (pos 0) (pos n)) (int_lt (pos n) (pos (min names (2 ^ 32)))) (le-leb 0 n (omega arith)) (lt-ltb n (min names (2 ^ 32)) (omega arith))

bit : (v : Bool) → fits_label boolean (if v then pos 1 else pos 0) ≡ true
bit true = refl
bit false = refl

label_fits : (s : Shape) → Fitting (SpellsLabel s) (fits_label s)
unfolding SpellsLabel
label_fits boolean = as_fits (λ b. if b then pos 1 else pos 0) SpellsBoolean (fits_label boolean) (λ o at v b all s. bit v)
label_fits char = natural_fits w8 255 refl (omega arith)
label_fits short = signed_fits w16 32767 refl (omega arith)
label_fits ushort = natural_fits w16 65535 refl (omega arith)
label_fits long = signed_fits w32 2147483647 refl (omega arith)
label_fits ulong = natural_fits w32 4294967295 refl (omega arith)
label_fits longlong = signed_fits w64 9223372036854775807 refl (omega arith)
label_fits ulonglong = natural_fits w64 18446744073709551615 refl (omega arith)
label_fits (labels names) = as_fits pos (SpellsOrdinal (length names)) (fits_label (labels names)) (λ o at n b all s.
    ordinal_label (length names) n (ltb-true n (2 ^ 32) (number_fits w32 refl o at n b all s.0)) (ltb-true n (length names) s.1))
label_fits octet = λ o at v b all s. absurd s
label_fits (text bound) = λ o at v b all s. absurd s
label_fits (octets bound) = λ o at v b all s. absurd s
label_fits (members fs) = λ o at v b all s. absurd s
label_fits (choice disc bs other) = λ o at v b all s. absurd s
label_fits (items t bound) = λ o at v b all s. absurd s
label_fits (row t n) = λ o at v b all s. absurd s

chosen_fits : (b : Bool) (P Q : Spelling (List Tree)) (one other : List Tree → Bool) → Fitting P one → Fitting Q other
    → Fitting (Chosen b P Q) (λ ts. if b then one ts else other ts)
chosen_fits true P Q one other here there = here
chosen_fits false P Q one other here there = there

mutual
  unfolding Spells fits

  pub shape_fits : (s : Shape) → Fitting (Spells s) (fits s)
  shape_fits boolean = as_fits boolean_of SpellsBoolean (fits boolean) (λ o at v b all s. refl)
  shape_fits octet = as_fits octet_of (SpellsNumber w8) (fits octet) (number_fits w8 refl)
  shape_fits char = as_fits char_of (SpellsNumber w8) (fits char) (number_fits w8 refl)
  shape_fits short = as_fits short_of (SpellsSigned w16) (fits short) (signed_fits w16 32767 refl (omega arith))
  shape_fits ushort = as_fits ushort_of (SpellsNumber w16) (fits ushort) (number_fits w16 refl)
  shape_fits long = as_fits long_of (SpellsSigned w32) (fits long) (signed_fits w32 2147483647 refl (omega arith))
  shape_fits ulong = as_fits ulong_of (SpellsNumber w32) (fits ulong) (number_fits w32 refl)
  shape_fits longlong = as_fits longlong_of (SpellsSigned w64) (fits longlong) (signed_fits w64 9223372036854775807 refl (omega arith))
  shape_fits ulonglong = as_fits ulonglong_of (SpellsNumber w64) (fits ulonglong) (number_fits w64 refl)
  shape_fits (text bound) = as_fits text_of (Bounded bound SpellsString) (fits (text bound)) (string_fits bound)
  shape_fits (octets bound) = as_fits octets_of (Bounded bound SpellsOctets) (fits (octets bound)) (octets_fits bound)
  shape_fits (labels names) = as_fits label_of (SpellsOrdinal (length names)) (fits (labels names)) (ordinal_fits (length names))
  shape_fits (members fs) = as_fits (λ ts. members_of (trees_of ts)) (SpellsFields fs) (fits (members fs)) (λ o at ts b all s.
      ap (fields_fit fs) (list_back ts) ∙ fields_fits fs o at ts b all s)
  shape_fits (choice disc bs other) = λ o at v b all s.
      let halves = parted b s.front s.back s.whole all in
      as_fits (λ ts. choice_of s.first (trees_of ts)) (SpellsBranches bs (SpellsFields other) s.first) (fits (choice disc bs other)) (λ o' at' ts b' all' s'.
      ap (λ us. fits_label disc s.first && branches_fit bs (fields_fit other) s.first us) (list_back ts)
      ∙ and_from (fits_label disc s.first) (branches_fit bs (fields_fit other) s.first ts) (label_fits disc o at s.first s.front halves.0 s.spells_front)
      (branches_fits bs other (fields_fits other) s.first o' at' ts b' all' s'))
      o (at + length s.front) v s.back halves.1 s.spells_back
  shape_fits (items s bound) = as_fits (λ ts. items_of (trees_of ts)) (SpellsBounded bound (Spells s)) (fits (items s bound)) (λ o at ts b all p.
      ap (λ us. is_counted bound (length us) && list_all (fits s) us) (list_back ts) ∙ bounded_fits bound (Spells s) (fits s) (shape_fits s) o at ts b all p)
  shape_fits (row s n) = as_fits (λ ts. row_of (trees_of ts)) (CountedItems (Spells s) n) (fits (row s n)) (λ o at ts b all p.
      ap (λ us. (length us == n) && list_all (fits s) us) (list_back ts)
      ∙ and_from (length ts == n) (list_all (fits s) ts) (equal (length ts) n p.0) (each_fits (Spells s) (fits s) (shape_fits s) o at ts b all p.1))

  fields_fits : (fs : Fields) → Fitting (SpellsFields fs) (fields_fit fs)
  fields_fits no_fields = λ o at ts b all s. rw s.0 refl
  fields_fits (field name s fs) = λ o at ts b all p.
      let halves = parted b p.front p.back p.whole all in
      let q = p.spells_back in
      let rest = parted p.back q.front q.back q.whole halves.1 in
      rw q.spells_back.0 (and_from (fits s p.first) (fields_fit fs q.first) (shape_fits s o at p.first p.front halves.0 p.spells_front)
      (fields_fits fs o (at + length p.front) q.first q.front rest.0 q.spells_front))

  branches_fits : (bs : Branches) (other : Fields) → Fitting (SpellsFields other) (fields_fit other) → (label : ℤ)
      → Fitting (SpellsBranches bs (SpellsFields other) label) (branches_fit bs (fields_fit other) label)
  branches_fits no_branches other default label = default
  branches_fits (branch ls name s bs) other default label =
      chosen_fits (is_label label ls) (As (λ t. t ∷ []) (Spells s)) (SpellsBranches bs (SpellsFields other) label)
      (is_one (fits s)) (branches_fit bs (fields_fit other) label)
      (as_fits (λ t. t ∷ []) (Spells s) (is_one (fits s)) (shape_fits s)) (branches_fits bs other default label)

-- ---- a value of a full shape has a leaf

mutual
  unfolding fits is_full

  pub some_leaves : (s : Shape) (t : Tree) → is_full s ≡ true → fits s t ≡ true → 0 < leaves t
  some_leaves (members fs) (members_of ts) full fit =
      let parts = and_parts (has_fields fs) (are_full fs) full in
      fields_leaves fs ts parts.0 parts.1 fit
  some_leaves (row s n) (row_of no_trees) full fit =
      let some : 0 < n = ltb-true 0 n (and_parts (nat_lt 0 n) (is_full s) full).0 in
      let none : 0 ≡ n = eqb-true 0 n (and_parts (0 == n) true fit).0 in
      absurd (omega arith)
  some_leaves (row s n) (row_of (tree t ts)) full fit =
      let each = and_parts (length (list_of (tree t ts)) == n) (list_all (fits s) (list_of (tree t ts))) fit in
      let first : 0 < leaves t = some_leaves s t (and_parts (nat_lt 0 n) (is_full s) full).1 (and_parts (fits s t) (list_all (fits s) (list_of ts)) each.1).0 in
      omega arith
  some_leaves s (text_of t) full fit = omega arith
  some_leaves s (octets_of t) full fit = omega arith
  some_leaves s (choice_of label ts) full fit = omega arith
  some_leaves s (items_of ts) full fit = omega arith
  some_leaves s (members_of ts) full fit = absurd cc
  some_leaves s (row_of ts) full fit = absurd cc
  some_leaves s t full fit = omega arith

  fields_leaves : (fs : Fields) (ts : Trees) → has_fields fs ≡ true → are_full fs ≡ true → fields_fit fs (list_of ts) ≡ true → 0 < leaves_of ts
  fields_leaves no_fields ts some full fit = absurd cc
  fields_leaves (field name s fs) no_trees some full fit = absurd cc
  fields_leaves (field name s fs) (tree t ts) some full fit =
      let first : 0 < leaves t = some_leaves s t (and_parts (is_full s) (are_full fs) full).0 (and_parts (fits s t) (fields_fit fs (list_of ts)) fit).0 in
      omega arith
