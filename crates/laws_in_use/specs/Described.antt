-- A struct of a number and a text, and a value of it.
use Rattle.std.specs.Prelude.{ℕ, List, [], ◌∷◌, codes}
use Rattle.giop_types.specs.Descriptions.Shape.{Shape, field, items, members, no_fields, octet, text, ushort}
use Rattle.giop_types.specs.Values.Tree.{Tree, members_of, no_trees, text_of, tree, ushort_of}

abbrev pub pair : Shape
pair = members (field (codes "number") ushort (field (codes "name") (text 0) no_fields))

abbrev pub value : Tree
value = members_of (tree (ushort_of 258) (tree (text_of (codes "hi")) no_trees))

-- the octets that it is written as from the offset 1 on, big-endian: each part behind its padding
abbrev pub value_octets : List ℕ
value_octets = 0 ∷ 1 ∷ 2 ∷ 0 ∷ 0 ∷ 0 ∷ 3 ∷ 104 ∷ 105 ∷ 0 ∷ []

-- a struct of which two members have one name
abbrev pub doubled : Shape
doubled = members (field (codes "name") ushort (field (codes "name") octet no_fields))

-- a sequence of octets of any length, octet by octet
abbrev pub many : Shape
many = items octet 0
