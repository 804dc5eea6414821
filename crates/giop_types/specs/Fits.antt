-- Which values are of a description: what the description asks beyond the ranges of the numbers
-- (CORBA 3.3 Part 2, 9.3.2).
use Rattle.std.specs.Prelude.{ℕ, ℤ, ◌+◌, ◌^◌, ◌==◌, ◌&&◌, nat_lt, min, not, Bool, true, false, if◌then◌else◌}
use Rattle.std.specs.Prelude.{List, [], ◌∷◌, length}
use Rattle.std.specs.List.{list_all}
use Rattle.giop_cdr.specs.Reading.{has_null, passes}
use Rattle.giop_types.specs.Shape.{Shape, boolean, octet, char, short, ushort, long, ulong, longlong}
use Rattle.giop_types.specs.Shape.{ulonglong, text, octets, labels, members, choice, items, row, Fields}
use Rattle.giop_types.specs.Shape.{no_fields, field, Branches, no_branches, branch}
use Rattle.giop_types.specs.Tree.{Tree, boolean_of, octet_of, char_of, short_of, ushort_of, long_of, ulong_of}
use Rattle.giop_types.specs.Tree.{longlong_of, ulonglong_of, text_of, octets_of, label_of, members_of}
use Rattle.giop_types.specs.Tree.{choice_of, items_of, row_of, Trees, no_trees, tree}
use Rattle.giop_types.specs.Decoding.{is_label}
use Rattle.giop_types.specs.Checked.{is_label_of, is_ordinal}

-- the values of a list
abbrev pub list_of : Trees → List Tree
list_of no_trees = []
list_of (tree t ts) = t ∷ list_of ts

-- no longer than its bound, and short enough for its count
abbrev pub is_counted : ℕ → ℕ → Bool
is_counted bound n = nat_lt n (2 ^ 32) && not (passes bound n)

-- no null inside, no longer than its bound, and with its null short enough for its count
abbrev pub is_text_of : ℕ → List ℕ → Bool
is_text_of bound t = not (has_null t) && (nat_lt (length t + 1) (2 ^ 32) && not (passes bound (length t)))

-- a value of a discriminant; an ordinal is an unsigned long
abbrev pub fits_label : Shape → ℤ → Bool
fits_label (labels names) z = is_ordinal (min (length names) (2 ^ 32)) z
fits_label disc z = is_label_of disc z

-- one value that passes a test
abbrev pub is_one : (Tree → Bool) → List Tree → Bool
is_one test (t ∷ []) = test t
is_one test _ = false

unfoldable mutual
  pub fits : Shape → Tree → Bool
  fits boolean (boolean_of b) = true
  fits octet (octet_of n) = true
  fits char (char_of n) = true
  fits short (short_of z) = true
  fits ushort (ushort_of n) = true
  fits long (long_of z) = true
  fits ulong (ulong_of n) = true
  fits longlong (longlong_of z) = true
  fits ulonglong (ulonglong_of n) = true
  fits (text bound) (text_of t) = is_text_of bound t
  fits (octets bound) (octets_of t) = is_counted bound (length t)
  fits (labels names) (label_of n) = nat_lt n (length names)
  fits (members fs) (members_of ts) = fields_fit fs (list_of ts)
  fits (choice disc bs other) (choice_of label ts) =
      fits_label disc label && branches_fit bs (fields_fit other) label (list_of ts)
  fits (items s bound) (items_of ts) = is_counted bound (length (list_of ts)) && list_all (fits s) (list_of ts)
  fits (row s n) (row_of ts) = (length (list_of ts) == n) && list_all (fits s) (list_of ts)
  fits _ _ = false

  -- as many values as members, each of its member's description
  pub fields_fit : Fields → List Tree → Bool
  fields_fit no_fields [] = true
  fields_fit (field name s fs) (t ∷ ts) = fits s t && fields_fit fs ts
  fields_fit _ _ = false

  -- the member that the label selects, or none
  pub branches_fit : Branches → (List Tree → Bool) → ℤ → List Tree → Bool
  branches_fit no_branches other label ts = other ts
  branches_fit (branch ls name s bs) other label ts =
      if is_label label ls then is_one (fits s) ts else branches_fit bs other label ts
