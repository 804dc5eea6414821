-- Shapes whose every value takes an octet: so a count above what remains can't be met.
use Rattle.std.specs.Prelude.{nat_lt, ◌&&◌, Bool, true, false}
use Rattle.giop_types.specs.Descriptions.Shape.{Shape, boolean, char, short, ushort, long, ulong, longlong, ulonglong}
use Rattle.giop_types.specs.Descriptions.Shape.{labels, members, choice, items, row, Fields, no_fields, field, Branches}
use Rattle.giop_types.specs.Descriptions.Shape.{no_branches, branch}

-- whether a discriminant can have this shape
abbrev pub is_discriminant : Shape → Bool
is_discriminant boolean = true
is_discriminant char = true
is_discriminant short = true
is_discriminant ushort = true
is_discriminant long = true
is_discriminant ulong = true
is_discriminant longlong = true
is_discriminant ulonglong = true
is_discriminant (labels names) = true
is_discriminant _ = false

abbrev pub has_fields : Fields → Bool
has_fields no_fields = false
has_fields (field name s fs) = true

-- whether no struct is empty, no array is of length 0, and discriminants can be such
unfoldable mutual
  pub is_full : Shape → Bool
  is_full (members fs) = has_fields fs && are_full fs
  is_full (choice disc bs other) = is_discriminant disc && (all_full bs && are_full other)
  is_full (items s bound) = is_full s
  is_full (row s n) = nat_lt 0 n && is_full s
  is_full _ = true

  pub are_full : Fields → Bool
  are_full no_fields = true
  are_full (field name s fs) = is_full s && are_full fs

  pub all_full : Branches → Bool
  all_full no_branches = true
  all_full (branch ls name s bs) = is_full s && all_full bs
