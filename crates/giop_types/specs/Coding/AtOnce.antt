-- Sequences of longs that are read or written at once, as values (CORBA 3.3 Part 2, 9.3.2.5).
use Rattle.std.specs.Prelude.{ℤ, List, map}
use Rattle.giop_types.specs.Values.Tree.{Tree, items_of, long_of}
use Rattle.giop_types.specs.Values.Views.{trees_of}

-- the sequence of values that longs are
abbrev pub items_of_longs : List ℤ → Tree
items_of_longs longs = items_of (trees_of (map long_of longs))
