-- A value, as a tree.
use Rattle.std.specs.Prelude.{ℕ, ℤ, Bool, List}

mutual
  -- a value of a shape of the same name; a char is its octet
  pub data Tree : Type 0 where
    boolean_of : Bool → Tree
    octet_of : ℕ → Tree
    char_of : ℕ → Tree
    short_of : ℤ → Tree
    ushort_of : ℕ → Tree
    long_of : ℤ → Tree
    ulong_of : ℕ → Tree
    longlong_of : ℤ → Tree
    ulonglong_of : ℕ → Tree
    -- the octets of a string, without its null
    text_of : List ℕ → Tree
    octets_of : List ℕ → Tree
    -- the ordinal of an enum's name
    label_of : ℕ → Tree
    members_of : Trees → Tree
    -- a union: its discriminant as a number, and its member, where it has one
    choice_of : ℤ → Trees → Tree
    items_of : Trees → Tree
    row_of : Trees → Tree

  -- values in their order
  pub data Trees : Type 0 where
    no_trees : Trees
    tree : Tree → Trees → Trees
