-- Shapes that descriptions have: each union has one member by default at most (CORBA 3.3 Part 2,
-- 9.3.2.3).
use Rattle.std.specs.Prelude.{◌&&◌, Bool, true, false}
use Rattle.giop_types.specs.Descriptions.Shape.{Shape, members, choice, items, row, Fields, no_fields, field, Branches}
use Rattle.giop_types.specs.Descriptions.Shape.{no_branches, branch}

-- one member at most
abbrev pub is_single : Fields → Bool
is_single no_fields = true
is_single (field name s no_fields) = true
is_single (field name s (field name_2 t fs)) = false

-- whether each union in it has one member by default at most
unfoldable mutual
  pub is_plain : Shape → Bool
  is_plain (members fs) = fields_plain fs
  is_plain (choice disc bs other) = branches_plain bs && (is_single other && fields_plain other)
  is_plain (items s bound) = is_plain s
  is_plain (row s n) = is_plain s
  is_plain _ = true

  pub fields_plain : Fields → Bool
  fields_plain no_fields = true
  fields_plain (field name s fs) = is_plain s && fields_plain fs

  pub branches_plain : Branches → Bool
  branches_plain no_branches = true
  branches_plain (branch ls name s bs) = is_plain s && branches_plain bs
