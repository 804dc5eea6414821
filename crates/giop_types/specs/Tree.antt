-- A value, as a tree.
use Rattle.std.specs.Prelude.{ℕ, ℤ, Bool, List}

mutual
  pub data Tree : Type 0 where
    boolean_of : Bool → Tree
    octet_of : ℕ → Tree
    char_of : ℕ → Tree
    short_of : ℤ → Tree
    ushort_of : ℕ → Tree
    long_of : ℤ → Tree
    ulong_of : ℕ → Tree
    longlong_of : ℤ → Tree
    ulonglong_of : ℕ → Tree
    text_of : List ℕ → Tree
    octets_of : List ℕ → Tree
    label_of : ℕ → Tree
    members_of : Trees → Tree
    choice_of : ℤ → Trees → Tree
    items_of : Trees → Tree
    row_of : Trees → Tree

  pub data Trees : Type 0 where
    no_trees : Trees
    tree : Tree → Trees → Trees
