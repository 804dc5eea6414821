-- How much a value holds: its primitives, and the octets of its texts.
use Rattle.std.specs.Prelude.{ℕ, ◌+◌, length, max}
use Rattle.giop_types.specs.Values.Tree.{Tree, text_of, octets_of, members_of, choice_of, items_of, row_of, Trees}
use Rattle.giop_types.specs.Values.Tree.{no_trees, tree}

-- the leaves of a value; an empty list or text is one, and so is a discriminant
abbrev mutual
  pub leaves : Tree → ℕ
  leaves (text_of t) = max 1 (length t)
  leaves (octets_of t) = max 1 (length t)
  leaves (members_of ts) = leaves_of ts
  leaves (choice_of label ts) = 1 + leaves_of ts
  leaves (items_of ts) = max 1 (leaves_of ts)
  leaves (row_of ts) = leaves_of ts
  leaves _ = 1

  pub leaves_of : Trees → ℕ
  leaves_of no_trees = 0
  leaves_of (tree t ts) = leaves t + leaves_of ts
