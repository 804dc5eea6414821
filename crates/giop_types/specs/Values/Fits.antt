-- Which values are of a description, and so can be written (CORBA 3.3 Part 2, 9.3.2).
use Rattle.std.specs.Prelude.{ℕ, ℤ, pos, neg_ℤ, ◌+◌, ◌-◌, ◌^◌, ◌==◌, ◌&&◌, nat_lt, min, not, Bool, true, false}
use Rattle.std.specs.Prelude.{if◌then◌else◌}
use Rattle.std.specs.Prelude.{List, [], ◌∷◌, length}
use Rattle.std.specs.List.{list_all}
use Rattle.giop_cdr.specs.Reading.Values.{has_null, passes}
use Rattle.giop_types.specs.Descriptions.Shape.{Shape, boolean, octet, char, short, ushort, long, ulong, longlong}
use Rattle.giop_types.specs.Descriptions.Shape.{ulonglong, text, octets, labels, members, choice, items, row, Fields}
use Rattle.giop_types.specs.Descriptions.Shape.{no_fields, field, Branches, no_branches, branch}
use Rattle.giop_types.specs.Values.Tree.{Tree, boolean_of, octet_of, char_of, short_of, ushort_of, long_of, ulong_of}
use Rattle.giop_types.specs.Values.Tree.{longlong_of, ulonglong_of, text_of, octets_of, label_of, members_of}
use Rattle.giop_types.specs.Values.Tree.{choice_of, items_of, row_of, Trees, no_trees, tree}
use Rattle.giop_types.specs.Coding.Decoding.{is_label}
use Rattle.giop_types.specs.Descriptions.Checked.{is_between, is_label_of, is_ordinal}

-- the values of a list
abbrev pub list_of : Trees → List Tree
list_of no_trees = []
list_of (tree t ts) = t ∷ list_of ts

-- a number of so many bits
abbrev pub is_unsigned : ℕ → ℕ → Bool
is_unsigned bits n = nat_lt n (2 ^ bits)

-- a number of so many bits beside its sign
abbrev pub is_signed : ℕ → ℤ → Bool
is_signed bits z = is_between (neg_ℤ (pos (2 ^ bits))) (pos (2 ^ bits - 1)) z

-- octets, and nothing else
abbrev pub are_octets : List ℕ → Bool
are_octets bs = list_all (is_unsigned 8) bs

-- no longer than its bound, and short enough for its count
abbrev pub is_counted : ℕ → ℕ → Bool
is_counted bound n = nat_lt n (2 ^ 32) && not (passes bound n)

-- octets that can be counted, within the bound
abbrev pub is_octets_of : ℕ → List ℕ → Bool
is_octets_of bound bs = are_octets bs && is_counted bound (length bs)

-- octets without a null, within the bound, that can be counted with their null
abbrev pub is_text_of : ℕ → List ℕ → Bool
is_text_of bound t = are_octets t
    && (not (has_null t) && (nat_lt (length t + 1) (2 ^ 32) && not (passes bound (length t))))

-- a value of a discriminant; an ordinal is an unsigned long
abbrev pub fits_label : Shape → ℤ → Bool
fits_label (labels names) z = is_ordinal (min (length names) (2 ^ 32)) z
fits_label disc z = is_label_of disc z

-- one value that passes a test
abbrev pub is_one : (Tree → Bool) → List Tree → Bool
is_one test (t ∷ []) = test t
is_one test _ = false

-- whether a value is of a shape: of the same kind; numbers in their range; a text without a null,
-- and within its bound (9.3.2.7); a sequence within its bound and its count (9.3.2.5); an ordinal
-- of a name (9.3.2.6); as many values as a struct has members (9.3.2.2) or an array says (9.3.2.4);
-- a union's discriminant in range, with the member that it selects and no other (9.3.2.3)
unfoldable mutual
  pub fits : Shape → Tree → Bool
  fits boolean (boolean_of b) = true
  fits octet (octet_of n) = is_unsigned 8 n
  fits char (char_of n) = is_unsigned 8 n
  fits short (short_of z) = is_signed 15 z
  fits ushort (ushort_of n) = is_unsigned 16 n
  fits long (long_of z) = is_signed 31 z
  fits ulong (ulong_of n) = is_unsigned 32 n
  fits longlong (longlong_of z) = is_signed 63 z
  fits ulonglong (ulonglong_of n) = is_unsigned 64 n
  fits (text bound) (text_of t) = is_text_of bound t
  fits (octets bound) (octets_of t) = is_octets_of bound t
  fits (labels names) (label_of n) = is_unsigned 32 n && nat_lt n (length names)
  fits (members fs) (members_of ts) = fields_fit fs (list_of ts)
  fits (choice disc bs other) (choice_of label ts) =
      fits_label disc label && branches_fit bs (fields_fit other) label (list_of ts)
  fits (items s bound) (items_of ts) =
      is_counted bound (length (list_of ts)) && list_all (fits s) (list_of ts)
  fits (row s n) (row_of ts) = (length (list_of ts) == n) && list_all (fits s) (list_of ts)
  fits _ _ = false

  -- as many values as members, each of its member's description
  pub fields_fit : Fields → List Tree → Bool
  fields_fit no_fields [] = true
  fields_fit (field name s fs) (t ∷ ts) = fits s t && fields_fit fs ts
  fields_fit _ _ = false

  -- the member that the label selects, or none
  pub branches_fit : Branches → (List Tree → Bool) → ℤ → List Tree → Bool
  branches_fit no_branches other label ts = other ts
  branches_fit (branch ls name s bs) other label ts =
      if is_label label ls then is_one (fits s) ts else branches_fit bs other label ts
