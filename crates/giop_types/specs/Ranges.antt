-- Values as a program holds them: their numbers are in the ranges of their types.
use Rattle.std.specs.Prelude.{◌<◌, ◌^◌, ⊤, FitsSigned}
use Rattle.std.specs.Int.{w16, w32, w64}
use Rattle.giop_types.specs.Tree.{Tree, octet_of, char_of, short_of, ushort_of, long_of, ulong_of}
use Rattle.giop_types.specs.Tree.{longlong_of, ulonglong_of, label_of, members_of}
use Rattle.giop_types.specs.Tree.{choice_of, items_of, row_of, Trees, no_trees, tree}

abbrev mutual
  pub IsInRange : Tree → Type 0
  IsInRange (octet_of n) = n < 2 ^ 8
  IsInRange (char_of n) = n < 2 ^ 8
  IsInRange (short_of z) = FitsSigned w16 z
  IsInRange (ushort_of n) = n < 2 ^ 16
  IsInRange (long_of z) = FitsSigned w32 z
  IsInRange (ulong_of n) = n < 2 ^ 32
  IsInRange (longlong_of z) = FitsSigned w64 z
  IsInRange (ulonglong_of n) = n < 2 ^ 64
  IsInRange (label_of n) = n < 2 ^ 32
  IsInRange (members_of ts) = AreInRange ts
  IsInRange (choice_of label ts) = AreInRange ts
  IsInRange (items_of ts) = AreInRange ts
  IsInRange (row_of ts) = AreInRange ts
  IsInRange _ = ⊤

  pub AreInRange : Trees → Type 0
  AreInRange no_trees = ⊤
  AreInRange (tree t ts) = IsInRange t × AreInRange ts
