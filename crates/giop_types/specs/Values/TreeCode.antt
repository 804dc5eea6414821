-- A code of values as trees of numbers, by which contracts tell lists of values apart.
use Rattle.std.specs.Prelude.{◌≡◌, ℕ, ℤ, pos, negsuc, ◌==◌, Bool, true, false, if◌then◌else◌, List, [], ◌∷◌}
use Rattle.std.proofs.Common.{refl, sym, ap, ◌∙◌}
use Rattle.std.specs.Coded.{Coded}
use base.Stored.{Gv, gnil, gnum, gcons, num}
use Rattle.giop_types.specs.Values.Tree.{Tree, boolean_of, octet_of, char_of, short_of, ushort_of, long_of, ulong_of}
use Rattle.giop_types.specs.Values.Tree.{longlong_of, ulonglong_of, text_of, octets_of, label_of, members_of}
use Rattle.giop_types.specs.Values.Tree.{choice_of, items_of, row_of, Trees, no_trees, tree}

-- ---- leaves

abbrev bool_code : Bool → Gv
bool_code true = gnil
bool_code false = gnum 0

abbrev bool_back : Gv → Bool
bool_back gnil = true
bool_back (gnum n) = false
bool_back (gcons g h) = false

abbrev int_code : ℤ → Gv
int_code (pos n) = gcons gnil (gnum n)
int_code (negsuc n) = gnum n

abbrev int_back : Gv → ℤ
int_back gnil = pos 0
int_back (gnum n) = negsuc n
int_back (gcons g h) = pos (num h)

abbrev octets_code : List ℕ → Gv
octets_code [] = gnil
octets_code (n ∷ ns) = gcons (gnum n) (octets_code ns)

abbrev octets_back : Gv → List ℕ
octets_back gnil = []
octets_back (gnum n) = []
octets_back (gcons g h) = num g ∷ octets_back h

-- ---- values

abbrev mutual
  pub tree_code : Tree → Gv
  tree_code (boolean_of b) = gcons (gnum 0) (bool_code b)
  tree_code (octet_of n) = gcons (gnum 1) (gnum n)
  tree_code (char_of n) = gcons (gnum 2) (gnum n)
  tree_code (short_of z) = gcons (gnum 3) (int_code z)
  tree_code (ushort_of n) = gcons (gnum 4) (gnum n)
  tree_code (long_of z) = gcons (gnum 5) (int_code z)
  tree_code (ulong_of n) = gcons (gnum 6) (gnum n)
  tree_code (longlong_of z) = gcons (gnum 7) (int_code z)
  tree_code (ulonglong_of n) = gcons (gnum 8) (gnum n)
  tree_code (text_of t) = gcons (gnum 9) (octets_code t)
  tree_code (octets_of t) = gcons (gnum 10) (octets_code t)
  tree_code (label_of n) = gcons (gnum 11) (gnum n)
  tree_code (members_of ts) = gcons (gnum 12) (trees_code ts)
  tree_code (choice_of z ts) = gcons (gnum 13) (gcons (int_code z) (trees_code ts))
  tree_code (items_of ts) = gcons (gnum 14) (trees_code ts)
  tree_code (row_of ts) = gcons (gnum 15) (trees_code ts)

  pub trees_code : Trees → Gv
  trees_code no_trees = gnil
  trees_code (tree t ts) = gcons (tree_code t) (trees_code ts)

-- what stands behind the first value
abbrev behind : Trees → Trees
behind no_trees = no_trees
behind (tree t ts) = ts

abbrev front : Gv → Gv
front gnil = gnil
front (gnum n) = gnil
front (gcons g h) = g

-- the value of a variant, from the code of its content, which is also read as values
abbrev made : ℕ → Gv → Trees → Tree
made k g ts =
    if k == 0 then boolean_of (bool_back g) else
    if k == 1 then octet_of (num g) else
    if k == 2 then char_of (num g) else
    if k == 3 then short_of (int_back g) else
    if k == 4 then ushort_of (num g) else
    if k == 5 then long_of (int_back g) else
    if k == 6 then ulong_of (num g) else
    if k == 7 then longlong_of (int_back g) else
    if k == 8 then ulonglong_of (num g) else
    if k == 9 then text_of (octets_back g) else
    if k == 10 then octets_of (octets_back g) else
    if k == 11 then label_of (num g) else
    if k == 12 then members_of ts else
    if k == 13 then choice_of (int_back (front g)) (behind ts) else
    if k == 14 then items_of ts else row_of ts

abbrev mutual
  pub tree_back : Gv → Tree
  tree_back gnil = boolean_of true
  tree_back (gnum n) = boolean_of true
  tree_back (gcons g h) = made (num g) h (trees_back h)

  pub trees_back : Gv → Trees
  trees_back gnil = no_trees
  trees_back (gnum n) = no_trees
  trees_back (gcons g h) = tree (tree_back g) (trees_back h)

bool_same : (b : Bool) → bool_back (bool_code b) ≡ b
bool_same true = refl
bool_same false = refl

int_same : (z : ℤ) → int_back (int_code z) ≡ z
int_same (pos n) = refl
int_same (negsuc n) = refl

octets_same : (t : List ℕ) → octets_back (octets_code t) ≡ t
octets_same [] = refl
octets_same (n ∷ ns) = ap (λ (t : List ℕ). n ∷ t) (octets_same ns)

mutual
  pub tree_same : (t : Tree) → tree_back (tree_code t) ≡ t
  tree_same (boolean_of b) = ap boolean_of (bool_same b)
  tree_same (octet_of n) = refl
  tree_same (char_of n) = refl
  tree_same (short_of z) = ap short_of (int_same z)
  tree_same (ushort_of n) = refl
  tree_same (long_of z) = ap long_of (int_same z)
  tree_same (ulong_of n) = refl
  tree_same (longlong_of z) = ap longlong_of (int_same z)
  tree_same (ulonglong_of n) = refl
  tree_same (text_of t) = ap text_of (octets_same t)
  tree_same (octets_of t) = ap octets_of (octets_same t)
  tree_same (label_of n) = refl
  tree_same (members_of ts) = ap members_of (trees_same ts)
  tree_same (choice_of z ts) = ap (λ l. choice_of l (trees_back (trees_code ts))) (int_same z)
      ∙ ap (choice_of z) (trees_same ts)
  tree_same (items_of ts) = ap items_of (trees_same ts)
  tree_same (row_of ts) = ap row_of (trees_same ts)

  trees_same : (ts : Trees) → trees_back (trees_code ts) ≡ ts
  trees_same no_trees = refl
  trees_same (tree t ts) =
      ap (λ u. tree u (trees_back (trees_code ts))) (tree_same t) ∙ ap (tree t) (trees_same ts)

-- two values with one code are the same
abbrev pub coded_tree : Coded Tree
coded_tree =
    record { code = tree_code; inj = λ t u p. sym (tree_same t) ∙ ap tree_back p ∙ tree_same u }
