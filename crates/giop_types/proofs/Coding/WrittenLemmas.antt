-- A fitting value that is written is spelled.
use Rattle.std.proofs.Common.{◌≡◌, ◌<◌, ◌≤◌, ◌^◌, ◌+◌, ℕ, suc, ℤ, pos, negsuc, nat_lt, ◌&&◌, ◌==◌, not, Bool}
use Rattle.std.proofs.Common.{true, false, if◌then◌else◌}
use Rattle.std.proofs.Common.{List, [], ◌∷◌, length, refl, ap, subst, arith, FitsSigned, zero, min}
use Rattle.std.proofs.Common.{int_le, int_lt}
use Rattle.std.proofs.lemmas.Int.{ints}
use mir.Val.{bits, hbits}
use Rattle.std.proofs.lemmas.Bool.{lt-ltb, ltb-true, leb-true, eqb-true, not-true}
use Rattle.std.specs.List.{list_all, AllByRecursion}
use Rattle.std.specs.Int.{Width, w8, w16, w32, w64, cast_unsigned}
use Rattle.giop_cdr.specs.Reading.Values.{number_at, signed_at, boolean_at, octets_at, string_at, has_null, passes}
use Rattle.giop_cdr.specs.Spelling.{Spelling, SpellsNumber, SpellsSigned, SpellsBoolean, SpellsString}
use Rattle.giop_cdr.specs.Spelling.{SpellsOctets}
use Rattle.giop_cdr.specs.Spelling.{CountedItems, Such, Known, Bounded}
use Rattle.giop_cdr.specs.Writing.Output.{Output, number_out, signed_out, octets_out, string_out, items_out, sequence_out}
use Rattle.giop_cdr.specs.RoundTrip.{IsSpelled, is_primitive}
use Rattle.giop_cdr.proofs.Writing.RoundTripLemmas.{number_back, signed_back, octets_back, string_back, boolean_back}
use Rattle.giop_cdr.proofs.Spelling.SpelledLemmas.{spelled_of, then_spelled, known_spelled, items_spelled}
use Rattle.giop_types.specs.Descriptions.Shape.{Shape, boolean, octet, char, short, ushort, long, ulong, longlong}
use Rattle.giop_types.specs.Descriptions.Shape.{ulonglong, text, octets, labels, members, choice, items, row, Fields}
use Rattle.giop_types.specs.Descriptions.Shape.{no_fields, field, Branches, no_branches, branch}
use Rattle.giop_types.specs.Values.Tree.{Tree, boolean_of, octet_of, char_of, short_of, ushort_of, long_of, ulong_of}
use Rattle.giop_types.specs.Values.Tree.{longlong_of, ulonglong_of, text_of, octets_of, label_of, members_of}
use Rattle.giop_types.specs.Values.Tree.{choice_of, items_of, row_of, Trees, no_trees, tree}
use Rattle.giop_types.specs.Values.Views.{trees_of}
use Rattle.giop_types.specs.Coding.Decoding.{is_label}
use Rattle.giop_types.specs.Coding.Spells.{As, Chosen, SpellsOrdinal, SpellsBounded, SpellsLabel, Spells}
use Rattle.giop_types.specs.Coding.Spells.{SpellsFields, SpellsBranches}
use Rattle.giop_types.specs.Descriptions.Checked.{is_between, is_ordinal}
use Rattle.giop_types.specs.Values.Fits.{list_of, is_unsigned, are_octets, fits_label, is_counted, is_octets_of, is_text_of}
use Rattle.giop_types.specs.Values.Fits.{is_one, fits, fields_fit, branches_fit}
use Rattle.giop_types.specs.Coding.Written.{label_out, one_out, value_out, fields_out, branches_out}
use Rattle.giop_types.proofs.Coding.Takes.{and_parts}
use Rattle.std.proofs.lemmas.Bool.{false≢true}

-- the values of a list, and the list of the values
listed : (ts : Trees) → trees_of (list_of ts) ≡ ts
listed no_trees = refl
listed (tree t ts) = ap (tree t) (listed ts)

as_spelled : {A B : Type 0} (f : A → B) (P : Spelling A) (x : A) (out done : Output) → IsSpelled P x out done → IsSpelled (As f P) (f x) out done
as_spelled f P x out done s = then_spelled P (λ v. Known (f v)) x (f x) out done done s (known_spelled (f x) done)

such_spelled : {A : Type 0} (test : A → Bool) (P : Spelling A) (v : A) (out done : Output) → test v ≡ true → IsSpelled P v out done
    → IsSpelled (Such test P) v out done
such_spelled test P v out done is s = record { part = s.part; octets = s.octets; order = s.order; at = s.at; spells = (s.spells, is) }

number_spelled : (w : Width) (n : ℕ) (out : Output) → is_primitive w ≡ true → n < 2 ^ bits w → IsSpelled (SpellsNumber w) n out (number_out w n out)
number_spelled w n out p fit = spelled_of (SpellsNumber w) (number_at w) n out (number_out w n out) (number_back w n out p fit)

signed_spelled : (w : Width) (z : ℤ) (out : Output) → is_primitive w ≡ true → FitsSigned w z → IsSpelled (SpellsSigned w) z out (signed_out w z out)
signed_spelled w z out p fit = spelled_of (SpellsSigned w) (signed_at w) z out (signed_out w z out) (signed_back w z out p fit)

-- a bound on what is spelled is kept
bounded_spelled : (bound : ℕ) (P : Spelling (List ℕ)) (v : List ℕ) (out done : Output) → passes bound (length v) ≡ false → IsSpelled P v out done
    → IsSpelled (Bounded bound P) v out done
bounded_spelled bound P v out done is s = record { part = s.part; octets = s.octets; order = s.order; at = s.at; spells = (s.spells, is) }

text_spelled : (bound : ℕ) (t : List ℕ) (out : Output) → is_text_of bound t ≡ true → IsSpelled (Bounded bound SpellsString) t out (string_out t out)
text_spelled bound t out fit =
    let text = and_parts (are_octets t) (not (has_null t) && (nat_lt (length t + 1) (2 ^ 32) && not (passes bound (length t)))) fit in
    let parts = and_parts (not (has_null t)) (nat_lt (length t + 1) (2 ^ 32) && not (passes bound (length t))) text.1 in
    let more = and_parts (nat_lt (length t + 1) (2 ^ 32)) (not (passes bound (length t))) parts.1 in
    bounded_spelled bound SpellsString t out (string_out t out) (not-true (passes bound (length t)) more.1)
    (spelled_of SpellsString (string_at 0) t out (string_out t out)
    (string_back t out (not-true (has_null t) parts.0) (ltb-true (length t + 1) (2 ^ 32) more.0)))

octets_spelled : (bound : ℕ) (t : List ℕ) (out : Output) → is_octets_of bound t ≡ true → IsSpelled (Bounded bound SpellsOctets) t out (octets_out t out)
octets_spelled bound t out fit =
    let counted = and_parts (are_octets t) (is_counted bound (length t)) fit in
    let parts = and_parts (nat_lt (length t) (2 ^ 32)) (not (passes bound (length t))) counted.1 in
    bounded_spelled bound SpellsOctets t out (octets_out t out) (not-true (passes bound (length t)) parts.1)
    (spelled_of SpellsOctets (octets_at 0) t out (octets_out t out) (octets_back t out (ltb-true (length t) (2 ^ 32) parts.0)))

-- what is asked of each value of a list
all_fit : (s : Shape) (ts : List Tree) → list_all (fits s) ts ≡ true → AllByRecursion (λ t. fits s t ≡ true) ts
all_fit s [] fit = tt
all_fit s (t ∷ ts) fit =
    let parts = and_parts (fits s t) (list_all (fits s) ts) fit in
    (parts.0, all_fit s ts parts.1)

-- ---- discriminants

natural_label : (k : ℕ) (z : ℤ) → is_between (pos 0) (pos k) z ≡ true → (n : ℕ) × (z ≡ pos n) × (n ≤ k)
natural_label k (pos n) h = (n, refl, leb-true n k (and_parts _ _ h).1)
natural_label k (negsuc n) h = absurd cc

signed_fits : (w : Width) (k : ℕ) → k < 2 ^ hbits w → (z : ℤ) → is_between (negsuc k) (pos k) z ≡ true → FitsSigned w z
signed_fits w k few (pos n) h =
    let le : n ≤ k = leb-true n k (and_parts (int_le (negsuc k) (pos n)) (int_le (pos n) (pos k)) h).1 in
    record { sfits = omega arith }
signed_fits w k few (negsuc n) h =
    let le : n ≤ k = leb-true n k (and_parts (int_le (negsuc k) (negsuc n)) (int_le (negsuc n) (pos k)) h).0 in
    record { sfits = omega arith }

-- a discriminant that is a number without a sign
natural_spelled : (w : Width) (k : ℕ) → is_primitive w ≡ true → k < 2 ^ bits w → ((n : ℕ) → n ≤ k → cast_unsigned w (pos n) ≡ n) → (z : ℤ) (out : Output)
    → is_between (pos 0) (pos k) z ≡ true → IsSpelled (As pos (SpellsNumber w)) z out (number_out w (cast_unsigned w z) out)
natural_spelled w k p few same z out h =
    let n = natural_label k z h in
    rw (n.1, same n.0 n.2) (as_spelled pos (SpellsNumber w) n.0 out (number_out w n.0 out) (number_spelled w n.0 out p (omega (arith, n.2))))

boolean_label : (z : ℤ) (out : Output) → is_between (pos 0) (pos 1) z ≡ true
    → IsSpelled (As (λ b. if b then pos 1 else pos 0) SpellsBoolean) z out (number_out w8 (cast_unsigned w8 z) out)
boolean_label (pos zero) out h = as_spelled (λ b. if b then pos 1 else pos 0) SpellsBoolean false out (number_out w8 0 out)
    (spelled_of SpellsBoolean boolean_at false out (number_out w8 0 out) (boolean_back false out))
boolean_label (pos (suc zero)) out h = as_spelled (λ b. if b then pos 1 else pos 0) SpellsBoolean true out (number_out w8 1 out)
    (spelled_of SpellsBoolean boolean_at true out (number_out w8 1 out) (boolean_back true out))
boolean_label (pos (suc (suc n))) out h =
    let le : suc (suc n) ≤ 1 = leb-true (suc (suc n)) 1 (and_parts (int_le (pos 0) (pos (suc (suc n)))) (int_le (pos (suc (suc n))) (pos 1)) h).1 in
    absurd (omega arith)
boolean_label (negsuc n) out h = absurd cc

ordinal_label : (names : ℕ) (z : ℤ) (out : Output) → is_ordinal (min names (2 ^ 32)) z ≡ true
    → IsSpelled (As pos (SpellsOrdinal names)) z out (number_out w32 (cast_unsigned w32 z) out)
ordinal_label names (negsuc n) out h = absurd cc
ordinal_label names (pos n) out h =
    let lt : n < min names (2 ^ 32) = ltb-true n (min names (2 ^ 32)) (and_parts (int_le (pos 0) (pos n)) (int_lt (pos n) (pos (min names (2 ^ 32)))) h).1 in
    let same : cast_unsigned w32 (pos n) ≡ n = omega (arith, ints) in
    rw same (as_spelled pos (SpellsOrdinal names) n out (number_out w32 n out)
    (such_spelled (λ ordinal. nat_lt ordinal names) (SpellsNumber w32) n out (number_out w32 n out) (lt-ltb n names (omega arith))
    (number_spelled w32 n out refl (omega arith))))

pub label_spelled : (s : Shape) (z : ℤ) (out : Output) → fits_label s z ≡ true → IsSpelled (SpellsLabel s) z out (label_out s z out)
unfolding SpellsLabel label_out
label_spelled boolean z out h = boolean_label z out h
label_spelled char z out h = natural_spelled w8 255 refl (omega arith) (λ n le. omega (arith, ints)) z out h
label_spelled short z out h = signed_spelled w16 z out refl (signed_fits w16 32767 (omega arith) z h)
label_spelled ushort z out h = natural_spelled w16 65535 refl (omega arith) (λ n le. omega (arith, ints)) z out h
label_spelled long z out h = signed_spelled w32 z out refl (signed_fits w32 2147483647 (omega arith) z h)
label_spelled ulong z out h = natural_spelled w32 4294967295 refl (omega arith) (λ n le. omega (arith, ints)) z out h
label_spelled longlong z out h = signed_spelled w64 z out refl (signed_fits w64 9223372036854775807 (omega arith) z h)
label_spelled ulonglong z out h = natural_spelled w64 18446744073709551615 refl (omega arith) (λ n le. omega (arith, ints)) z out h
label_spelled (labels names) z out h = ordinal_label (length names) z out h
label_spelled octet z out h = absurd (false≢true h)
label_spelled (text bound) z out h = absurd (false≢true h)
label_spelled (octets bound) z out h = absurd (false≢true h)
label_spelled (members fs) z out h = absurd (false≢true h)
label_spelled (choice disc bs other) z out h = absurd (false≢true h)
label_spelled (items t bound) z out h = absurd (false≢true h)
label_spelled (row t n) z out h = absurd (false≢true h)

-- the only value of a list
one_spelled : (P : Spelling Tree) (item : Tree → Output → Output) (test : Tree → Bool)
    → ((t : Tree) (out : Output) → test t ≡ true → IsSpelled P t out (item t out))
    → (ts : Trees) (out : Output) → is_one test (list_of ts) ≡ true
    → IsSpelled (As (λ t. t ∷ []) P) (list_of ts) out (one_out item (list_of ts) out)
one_spelled P item test each (tree t no_trees) out fit = as_spelled (λ t. t ∷ []) P t out (item t out) (each t out fit)
one_spelled P item test each (tree t (tree u us)) out fit = absurd (false≢true fit)
one_spelled P item test each no_trees out fit = absurd (false≢true fit)

-- one spelling or another, as one value is written or another
chosen_spelled : (b : Bool) (P Q : Spelling (List Tree)) (ts : List Tree) (out : Output) (one other : Output)
    → (b ≡ true → IsSpelled P ts out one) → (b ≡ false → IsSpelled Q ts out other) → IsSpelled (Chosen b P Q) ts out (if b then one else other)
chosen_spelled true P Q ts out one other here there = here refl
chosen_spelled false P Q ts out one other here there = there refl

if_true : (b c d : Bool) → b ≡ true → (if b then c else d) ≡ true → c ≡ true
if_true true c d is h = h
if_true false c d is h = absurd cc

if_false : (b c d : Bool) → b ≡ false → (if b then c else d) ≡ true → d ≡ true
if_false true c d is h = absurd cc
if_false false c d is h = h

if_out : (b : Bool) (f g : List Tree → Output → Output) (ts : List Tree) (out : Output)
    → (if b then f ts out else g ts out) ≡ (if b then f ts else g ts) out
if_out true f g ts out = refl
if_out false f g ts out = refl

bounded_items : (bound : ℕ) (P : Spelling Tree) (item : Tree → Output → Output) (Fits : Tree → Type 0)
    → ((v : Tree) (out : Output) → Fits v → IsSpelled P v out (item v out))
    → (vs : List Tree) (out : Output) → is_counted bound (length vs) ≡ true → AllByRecursion Fits vs
    → IsSpelled (SpellsBounded bound P) vs out (sequence_out item vs out)
unfolding sequence_out
bounded_items bound P item Fits each vs out counted fit =
    let parts = and_parts (nat_lt (length vs) (2 ^ 32)) (not (passes bound (length vs))) counted in
    let mid : Output = number_out w32 (length vs) out in
    let done : Output = items_out item vs mid in
    let items = items_spelled P item Fits each vs mid fit in
    then_spelled (Such (λ n. not (passes bound n)) (SpellsNumber w32)) (CountedItems P) (length vs) vs out mid done
    (such_spelled (λ n. not (passes bound n)) (SpellsNumber w32) (length vs) out mid parts.1
    (number_spelled w32 (length vs) out refl (ltb-true (length vs) (2 ^ 32) parts.0)))
    (record { part = items.part; octets = items.octets; order = items.order; at = items.at; spells = (refl, items.spells) })

mutual
  unfolding Spells fits value_out

  pub shape_spelled : (s : Shape) (t : Tree) (out : Output) → fits s t ≡ true → IsSpelled (Spells s) t out (value_out s t out)
  shape_spelled boolean (boolean_of b) out f = as_spelled boolean_of SpellsBoolean b out (number_out w8 (if b then 1 else 0) out)
      (spelled_of SpellsBoolean boolean_at b out (number_out w8 (if b then 1 else 0) out) (boolean_back b out))
  shape_spelled boolean _ out f = absurd (false≢true f)
  shape_spelled octet (octet_of n) out f =
      as_spelled octet_of (SpellsNumber w8) n out (number_out w8 n out) (number_spelled w8 n out refl (ltb-true n (2 ^ 8) f))
  shape_spelled octet _ out f = absurd (false≢true f)
  shape_spelled char (char_of n) out f = as_spelled char_of (SpellsNumber w8) n out (number_out w8 n out) (number_spelled w8 n out refl (ltb-true n (2 ^ 8) f))
  shape_spelled char _ out f = absurd (false≢true f)
  shape_spelled short (short_of z) out f =
      as_spelled short_of (SpellsSigned w16) z out (signed_out w16 z out) (signed_spelled w16 z out refl (signed_fits w16 32767 (omega arith) z f))
  shape_spelled short _ out f = absurd (false≢true f)
  shape_spelled ushort (ushort_of n) out f =
      as_spelled ushort_of (SpellsNumber w16) n out (number_out w16 n out) (number_spelled w16 n out refl (ltb-true n (2 ^ 16) f))
  shape_spelled ushort _ out f = absurd (false≢true f)
  shape_spelled long (long_of z) out f =
      as_spelled long_of (SpellsSigned w32) z out (signed_out w32 z out) (signed_spelled w32 z out refl (signed_fits w32 2147483647 (omega arith) z f))
  shape_spelled long _ out f = absurd (false≢true f)
  shape_spelled ulong (ulong_of n) out f =
      as_spelled ulong_of (SpellsNumber w32) n out (number_out w32 n out) (number_spelled w32 n out refl (ltb-true n (2 ^ 32) f))
  shape_spelled ulong _ out f = absurd (false≢true f)
  shape_spelled longlong (longlong_of z) out f = as_spelled longlong_of (SpellsSigned w64) z out (signed_out w64 z out)
      (signed_spelled w64 z out refl (signed_fits w64 9223372036854775807 (omega arith) z f))
  shape_spelled longlong _ out f = absurd (false≢true f)
  shape_spelled ulonglong (ulonglong_of n) out f =
      as_spelled ulonglong_of (SpellsNumber w64) n out (number_out w64 n out) (number_spelled w64 n out refl (ltb-true n (2 ^ 64) f))
  shape_spelled ulonglong _ out f = absurd (false≢true f)
  shape_spelled (text bound) (text_of t) out f = as_spelled text_of (Bounded bound SpellsString) t out (string_out t out) (text_spelled bound t out f)
  shape_spelled (text bound) _ out f = absurd (false≢true f)
  shape_spelled (octets bound) (octets_of t) out f = as_spelled octets_of (Bounded bound SpellsOctets) t out (octets_out t out) (octets_spelled bound t out f)
  shape_spelled (octets bound) _ out f = absurd (false≢true f)
  shape_spelled (labels names) (label_of n) out f =
      let parts = and_parts (is_unsigned 32 n) (nat_lt n (length names)) f in
      as_spelled label_of (SpellsOrdinal (length names)) n out (number_out w32 n out)
      (such_spelled (λ ordinal. nat_lt ordinal (length names)) (SpellsNumber w32) n out (number_out w32 n out) parts.1
      (number_spelled w32 n out refl (ltb-true n (2 ^ 32) parts.0)))
  shape_spelled (labels names) _ out f = absurd (false≢true f)
  shape_spelled (members fs) (members_of ts) out f =
      subst (λ us. IsSpelled (Spells (members fs)) (members_of us) out (fields_out fs (list_of ts) out)) (listed ts)
      (as_spelled (λ us. members_of (trees_of us)) (SpellsFields fs) (list_of ts) out (fields_out fs (list_of ts) out) (fields_spelled fs ts out f))
  shape_spelled (members fs) _ out f = absurd (false≢true f)
  shape_spelled (choice disc bs other) (choice_of label ts) out f =
      let parts = and_parts (fits_label disc label) (branches_fit bs (fields_fit other) label (list_of ts)) f in
      let mid : Output = label_out disc label out in
      let done : Output = branches_out bs (fields_out other) label (list_of ts) mid in
      subst (λ us. IsSpelled (Spells (choice disc bs other)) (choice_of label us) out done) (listed ts)
      (then_spelled (SpellsLabel disc) (λ l. As (λ us. choice_of l (trees_of us)) (SpellsBranches bs (SpellsFields other) l)) label
      (choice_of label (trees_of (list_of ts)))
      out mid done (label_spelled disc label out parts.0)
      (as_spelled (λ us. choice_of label (trees_of us)) (SpellsBranches bs (SpellsFields other) label) (list_of ts) mid done
      (branches_spelled bs other label ts mid (λ g. fields_spelled other ts mid g) parts.1)))
  shape_spelled (choice disc bs other) _ out f = absurd (false≢true f)
  shape_spelled (items s bound) (items_of ts) out f =
      let parts = and_parts (is_counted bound (length (list_of ts))) (list_all (fits s) (list_of ts)) f in
      subst (λ us. IsSpelled (Spells (items s bound)) (items_of us) out (sequence_out (value_out s) (list_of ts) out)) (listed ts)
      (as_spelled (λ us. items_of (trees_of us)) (SpellsBounded bound (Spells s)) (list_of ts) out (sequence_out (value_out s) (list_of ts) out)
      (bounded_items bound (Spells s) (value_out s) (λ t. fits s t ≡ true) (λ t o g. shape_spelled s t o g) (list_of ts) out parts.0
      (all_fit s (list_of ts) parts.1)))
  shape_spelled (items s bound) _ out f = absurd (false≢true f)
  shape_spelled (row s n) (row_of ts) out f =
      let parts = and_parts (length (list_of ts) == n) (list_all (fits s) (list_of ts)) f in
      let each =
      items_spelled (Spells s) (value_out s) (λ t. fits s t ≡ true) (λ t o g. shape_spelled s t o g) (list_of ts) out (all_fit s (list_of ts) parts.1) in
      subst (λ us. IsSpelled (Spells (row s n)) (row_of us) out (items_out (value_out s) (list_of ts) out)) (listed ts)
      (as_spelled (λ us. row_of (trees_of us)) (CountedItems (Spells s) n) (list_of ts) out (items_out (value_out s) (list_of ts) out)
      (record { part = each.part; octets = each.octets; order = each.order; at = each.at; spells = (eqb-true (length (list_of ts)) n parts.0, each.spells) }))
  shape_spelled (row s n) _ out f = absurd (false≢true f)

  pub fields_spelled : (fs : Fields) (ts : Trees) (out : Output) → fields_fit fs (list_of ts) ≡ true
      → IsSpelled (SpellsFields fs) (list_of ts) out (fields_out fs (list_of ts) out)
  fields_spelled no_fields no_trees out f = known_spelled [] out
  fields_spelled no_fields (tree t ts) out f = absurd (false≢true f)
  fields_spelled (field name s fs) no_trees out f = absurd (false≢true f)
  fields_spelled (field name s fs) (tree t ts) out f =
      let parts = and_parts (fits s t) (fields_fit fs (list_of ts)) f in
      let mid : Output = value_out s t out in
      let done : Output = fields_out fs (list_of ts) mid in
      then_spelled (Spells s) (λ first. As (λ us. first ∷ us) (SpellsFields fs)) t (t ∷ list_of ts) out mid done (shape_spelled s t out parts.0)
      (as_spelled (λ us. t ∷ us) (SpellsFields fs) (list_of ts) mid done (fields_spelled fs ts mid parts.1))

  pub branches_spelled : (bs : Branches) (other : Fields) (label : ℤ) (ts : Trees) (out : Output)
      → (fields_fit other (list_of ts) ≡ true → IsSpelled (SpellsFields other) (list_of ts) out (fields_out other (list_of ts) out))
      → branches_fit bs (fields_fit other) label (list_of ts) ≡ true
      → IsSpelled (SpellsBranches bs (SpellsFields other) label) (list_of ts) out (branches_out bs (fields_out other) label (list_of ts) out)
  branches_spelled no_branches other label ts out default f = default f
  branches_spelled (branch ls name s bs) other label ts out default f =
      rw (← if_out (is_label label ls) (one_out (value_out s)) (branches_out bs (fields_out other) label) (list_of ts) out)
      (chosen_spelled (is_label label ls) (As (λ t. t ∷ []) (Spells s)) (SpellsBranches bs (SpellsFields other) label) (list_of ts) out
      (one_out (value_out s) (list_of ts) out) (branches_out bs (fields_out other) label (list_of ts) out)
      (λ is. one_spelled (Spells s) (value_out s) (fits s) (λ t o g. shape_spelled s t o g) ts out
      (if_true (is_label label ls) (is_one (fits s) (list_of ts)) (branches_fit bs (fields_fit other) label (list_of ts)) is f))
      (λ is. branches_spelled bs other label ts out default
      (if_false (is_label label ls) (is_one (fits s) (list_of ts)) (branches_fit bs (fields_fit other) label (list_of ts)) is f)))
