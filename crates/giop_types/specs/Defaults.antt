-- Shapes of descriptions: each union has one member by default, or none.
use Rattle.std.specs.Prelude.{◌&&◌, Bool, true, false}
use Rattle.giop_types.specs.Shape.{Shape, members, choice, items, row, Fields, no_fields, field, Branches}
use Rattle.giop_types.specs.Shape.{no_branches, branch}

-- one member at most
abbrev pub is_single : Fields → Bool
is_single no_fields = true
is_single (field name s no_fields) = true
is_single (field name s (field name_2 t fs)) = false

unfoldable mutual
  pub has_single_defaults : Shape → Bool
  has_single_defaults (members fs) = fields_have fs
  has_single_defaults (choice disc bs other) = branches_have bs && (is_single other && fields_have other)
  has_single_defaults (items s bound) = has_single_defaults s
  has_single_defaults (row s n) = has_single_defaults s
  has_single_defaults _ = true

  pub fields_have : Fields → Bool
  fields_have no_fields = true
  fields_have (field name s fs) = has_single_defaults s && fields_have fs

  pub branches_have : Branches → Bool
  branches_have no_branches = true
  branches_have (branch ls name s bs) = has_single_defaults s && branches_have bs
