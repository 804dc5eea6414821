-- Which values are the same: what `==` returns.
use Rattle.std.specs.Prelude.{◌==◌, ◌&&◌, nat_eq, not, Bool, true, false, List}
use Rattle.std.specs.Ordering.{int_eq, on}
use Rattle.std.specs.Cmp.Lexicographic.{pointwise}
use Rattle.giop_types.specs.declared.value.Value.{Value}
use Rattle.giop_types.specs.Values.Tree.{Tree, boolean_of, octet_of, char_of, short_of, ushort_of, long_of, ulong_of}
use Rattle.giop_types.specs.Values.Tree.{longlong_of, ulonglong_of, text_of, octets_of, label_of, members_of}
use Rattle.giop_types.specs.Values.Tree.{choice_of, items_of, row_of, Trees, no_trees, tree}
use Rattle.giop_types.specs.Values.Views.{value_view}

-- whether two booleans are the same
abbrev pub same_bool : Bool → Bool → Bool
same_bool true b = b
same_bool false b = not b

-- whether two values are of the same kind and have the same parts
unfoldable mutual
  pub same_tree : Tree → Tree → Bool
  same_tree (boolean_of a) (boolean_of b) = same_bool a b
  same_tree (octet_of a) (octet_of b) = a == b
  same_tree (char_of a) (char_of b) = a == b
  same_tree (short_of a) (short_of b) = int_eq a b
  same_tree (ushort_of a) (ushort_of b) = a == b
  same_tree (long_of a) (long_of b) = int_eq a b
  same_tree (ulong_of a) (ulong_of b) = a == b
  same_tree (longlong_of a) (longlong_of b) = int_eq a b
  same_tree (ulonglong_of a) (ulonglong_of b) = a == b
  same_tree (text_of a) (text_of b) = pointwise nat_eq a b
  same_tree (octets_of a) (octets_of b) = pointwise nat_eq a b
  same_tree (label_of a) (label_of b) = a == b
  same_tree (members_of a) (members_of b) = same_trees a b
  same_tree (choice_of a x) (choice_of b y) = int_eq a b && same_trees x y
  same_tree (items_of a) (items_of b) = same_trees a b
  same_tree (row_of a) (row_of b) = same_trees a b
  same_tree _ _ = false

  -- as many values, each the same
  pub same_trees : Trees → Trees → Bool
  same_trees no_trees no_trees = true
  same_trees (tree t ts) (tree u us) = same_tree t u && same_trees ts us
  same_trees _ _ = false

-- what `==` returns of two values
abbrev pub same_value : Value → Value → Bool
same_value = on value_view same_tree

-- what `==` returns of two lists of values: as many, each the same
abbrev pub same_list : List Tree → List Tree → Bool
same_list = pointwise same_tree
