-- Two longs, the octets that they are read from and written as, and what they are as values.
use Rattle.std.specs.Prelude.{ℕ, ℤ, pos, negsuc, List, [], ◌∷◌}
use Rattle.giop_cdr.specs.Reading.Cursor.{Cursor}
use Rattle.giop_cdr.specs.Writing.Output.{Output}
use Rattle.giop_cdr.specs.declared.order.Order.TheVariants.{Big}
use Rattle.giop_types.specs.Values.Tree.{Tree, items_of, long_of, no_trees, tree}

-- 7 and -2
abbrev pub longs : List ℤ
longs = pos 7 ∷ negsuc 1 ∷ []

-- behind their number, from the offset 0 on, big-endian
abbrev pub longs_octets : List ℕ
longs_octets = 0 ∷ 0 ∷ 0 ∷ 2 ∷ 0 ∷ 0 ∷ 0 ∷ 7 ∷ 255 ∷ 255 ∷ 255 ∷ 254 ∷ []

-- the same without three of the last four
abbrev pub cut_octets : List ℕ
cut_octets = 0 ∷ 0 ∷ 0 ∷ 2 ∷ 0 ∷ 0 ∷ 0 ∷ 7 ∷ 255 ∷ []

abbrev pub longs_value : Tree
longs_value = items_of (tree (long_of (pos 7)) (tree (long_of (negsuc 1)) no_trees))

-- octets that are read from the offset 0 on
abbrev pub at_front : List ℕ → Cursor
at_front octets = record { order = Big; at = 0; rest = octets }

-- nothing that is written, and the two longs
abbrev pub nothing_out : Output
nothing_out = record { order = Big; at = 0; octets = [] }

abbrev pub longs_out : Output
longs_out = record { order = Big; at = 12; octets = longs_octets }
