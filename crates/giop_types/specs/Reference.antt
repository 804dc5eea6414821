-- The description of an object reference (CORBA 3.3 Part 2, 7.6.2).
use Rattle.std.specs.Prelude.{codes}
use Rattle.giop_types.specs.Shape.{Shape, ulong, text, octets, members, items, no_fields, field}

-- a profile: its tag and its octets
abbrev pub profile_shape : Shape
profile_shape = members (field (codes "tag") ulong (field (codes "octets") (octets 0) no_fields))

-- an IOR: a type id, and profiles
abbrev pub reference_shape : Shape
reference_shape = members (field (codes "type_id") (text 0) (field (codes "profiles") (items profile_shape 0) no_fields))
