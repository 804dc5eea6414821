-- That `==` returns whether two values are the same, and so is an equivalence.
use Rattle.std.proofs.Common.{◌≡◌, Bool, true, false, List, refl, ap, ◌∙◌}
use Rattle.std.proofs.lemmas.Bool.{and_parts, false≢true}
use Rattle.std.proofs.lemmas.Bool.Decides.{Decides-eqb, Decides-int_eq}
use Rattle.std.proofs.lemmas.Slice.Eq.{bytes_eq-Decides, slice_eq-Decides}
use Rattle.std.specs.Bool.{Decides}
use Rattle.std.specs.Cmp.{IsEquivalence, IsPartialEquivalence, decided, partial_equiv_from_equiv, on_equiv}
use Rattle.std.specs.Ordering.{int_eq}
use Rattle.giop_types.specs.Values.Tree.{Tree, boolean_of, octet_of, char_of, short_of, ushort_of, long_of, ulong_of}
use Rattle.giop_types.specs.Values.Tree.{longlong_of, ulonglong_of, text_of, octets_of, label_of, members_of}
use Rattle.giop_types.specs.Values.Tree.{choice_of, items_of, row_of, Trees, no_trees, tree}
use Rattle.giop_types.specs.Values.Same.{same_bool, same_tree, same_trees, same_value, same_list}
use Rattle.giop_types.specs.Values.Views.{value_view}

bool_true : (a b : Bool) → same_bool a b ≡ true → a ≡ b
bool_true true true h = refl
bool_true true false h = absurd (false≢true h)
bool_true false true h = absurd (false≢true h)
bool_true false false h = refl

bool_is : (a : Bool) → same_bool a a ≡ true
bool_is true = refl
bool_is false = refl

mutual
  unfolding same_tree

  same_true : (t u : Tree) → same_tree t u ≡ true → t ≡ u
  same_true (boolean_of a) (boolean_of b) h = ap boolean_of (bool_true a b h)
  same_true (boolean_of a) _ h = absurd (false≢true h)
  same_true (octet_of a) (octet_of b) h = ap octet_of ((Decides-eqb a b).0 h)
  same_true (octet_of a) _ h = absurd (false≢true h)
  same_true (char_of a) (char_of b) h = ap char_of ((Decides-eqb a b).0 h)
  same_true (char_of a) _ h = absurd (false≢true h)
  same_true (short_of a) (short_of b) h = ap short_of ((Decides-int_eq a b).0 h)
  same_true (short_of a) _ h = absurd (false≢true h)
  same_true (ushort_of a) (ushort_of b) h = ap ushort_of ((Decides-eqb a b).0 h)
  same_true (ushort_of a) _ h = absurd (false≢true h)
  same_true (long_of a) (long_of b) h = ap long_of ((Decides-int_eq a b).0 h)
  same_true (long_of a) _ h = absurd (false≢true h)
  same_true (ulong_of a) (ulong_of b) h = ap ulong_of ((Decides-eqb a b).0 h)
  same_true (ulong_of a) _ h = absurd (false≢true h)
  same_true (longlong_of a) (longlong_of b) h = ap longlong_of ((Decides-int_eq a b).0 h)
  same_true (longlong_of a) _ h = absurd (false≢true h)
  same_true (ulonglong_of a) (ulonglong_of b) h = ap ulonglong_of ((Decides-eqb a b).0 h)
  same_true (ulonglong_of a) _ h = absurd (false≢true h)
  same_true (text_of a) (text_of b) h = ap text_of ((bytes_eq-Decides a b).0 h)
  same_true (text_of a) _ h = absurd (false≢true h)
  same_true (octets_of a) (octets_of b) h = ap octets_of ((bytes_eq-Decides a b).0 h)
  same_true (octets_of a) _ h = absurd (false≢true h)
  same_true (label_of a) (label_of b) h = ap label_of ((Decides-eqb a b).0 h)
  same_true (label_of a) _ h = absurd (false≢true h)
  same_true (members_of a) (members_of b) h = ap members_of (all_true a b h)
  same_true (members_of a) _ h = absurd (false≢true h)
  same_true (choice_of a x) (choice_of b y) h =
      let parts = and_parts (int_eq a b) (same_trees x y) h in
      ap (λ l. choice_of l x) ((Decides-int_eq a b).0 parts.0)
      ∙ ap (choice_of b) (all_true x y parts.1)
  same_true (choice_of a x) _ h = absurd (false≢true h)
  same_true (items_of a) (items_of b) h = ap items_of (all_true a b h)
  same_true (items_of a) _ h = absurd (false≢true h)
  same_true (row_of a) (row_of b) h = ap row_of (all_true a b h)
  same_true (row_of a) _ h = absurd (false≢true h)

  all_true : (ts us : Trees) → same_trees ts us ≡ true → ts ≡ us
  all_true no_trees no_trees h = refl
  all_true no_trees (tree u us) h = absurd (false≢true h)
  all_true (tree t ts) no_trees h = absurd (false≢true h)
  all_true (tree t ts) (tree u us) h =
      let parts = and_parts (same_tree t u) (same_trees ts us) h in
      ap (λ x. tree x ts) (same_true t u parts.0) ∙ ap (tree u) (all_true ts us parts.1)

mutual
  unfolding same_tree

  itself : (t : Tree) → same_tree t t ≡ true
  itself (boolean_of a) = bool_is a
  itself (octet_of a) = (Decides-eqb a a).1 refl
  itself (char_of a) = (Decides-eqb a a).1 refl
  itself (short_of a) = (Decides-int_eq a a).1 refl
  itself (ushort_of a) = (Decides-eqb a a).1 refl
  itself (long_of a) = (Decides-int_eq a a).1 refl
  itself (ulong_of a) = (Decides-eqb a a).1 refl
  itself (longlong_of a) = (Decides-int_eq a a).1 refl
  itself (ulonglong_of a) = (Decides-eqb a a).1 refl
  itself (text_of a) = (bytes_eq-Decides a a).1 refl
  itself (octets_of a) = (bytes_eq-Decides a a).1 refl
  itself (label_of a) = (Decides-eqb a a).1 refl
  itself (members_of a) = all_themselves a
  itself (choice_of a x) = rw ((Decides-int_eq a a).1 refl) (all_themselves x)
  itself (items_of a) = all_themselves a
  itself (row_of a) = all_themselves a

  all_themselves : (ts : Trees) → same_trees ts ts ≡ true
  all_themselves no_trees = refl
  all_themselves (tree t ts) = rw (itself t) (all_themselves ts)

-- values are the same exactly where contracts see the same of both
pub same_decides : (t u : Tree) → Decides (same_tree t u) (t ≡ u)
same_decides t u = (same_true t u, λ is. ap (λ x. same_tree x u) is ∙ itself u)

-- so `==` of values is an equivalence
pub same_equivalence : IsEquivalence same_value
same_equivalence = on_equiv value_view (decided same_tree same_decides)

-- the part of it that `PartialEq` asks for
pub same_partial : IsPartialEquivalence same_value
same_partial = partial_equiv_from_equiv same_equivalence

-- lists are the same exactly where contracts see the same of both
pub same_list_decides : (ts us : List Tree) → Decides (same_list ts us) (ts ≡ us)
same_list_decides ts us = slice_eq-Decides same_decides ts us (same_list ts us) refl

-- so `==` of lists of values is an equivalence
pub same_list_equivalence : IsEquivalence same_list
same_list_equivalence = decided same_list same_list_decides

-- the part of it that `PartialEq` asks for
pub same_list_partial : IsPartialEquivalence same_list
same_list_partial = partial_equiv_from_equiv same_list_equivalence
