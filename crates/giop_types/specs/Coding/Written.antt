-- What is written of a value (CORBA 3.3 Part 2, 9.3.2): pads of zeros, and no string of length 0.
use Rattle.std.specs.Prelude.{ℤ, if◌then◌else◌, List, [], ◌∷◌}
use Rattle.std.specs.Int.{w8, w16, w32, w64, cast_unsigned}
use Rattle.giop_cdr.specs.Writing.Output.{Output, number_out, signed_out, octets_out, string_out, items_out, sequence_out}
use Rattle.giop_types.specs.Descriptions.Shape.{Shape, boolean, octet, char, short, ushort, long, ulong, longlong}
use Rattle.giop_types.specs.Descriptions.Shape.{ulonglong, text, octets, labels, members, choice, items, row, Fields}
use Rattle.giop_types.specs.Descriptions.Shape.{field, Branches, no_branches, branch}
use Rattle.giop_types.specs.Values.Tree.{Tree, boolean_of, octet_of, char_of, short_of, ushort_of, long_of, ulong_of}
use Rattle.giop_types.specs.Values.Tree.{longlong_of, ulonglong_of, text_of, octets_of, label_of, members_of}
use Rattle.giop_types.specs.Values.Tree.{choice_of, items_of, row_of}
use Rattle.giop_types.specs.Coding.Decoding.{is_label}
use Rattle.giop_types.specs.Values.Fits.{list_of}

-- a discriminant, by its number
unfoldable pub label_out : Shape → ℤ → Output → Output
label_out boolean z = number_out w8 (cast_unsigned w8 z)
label_out char z = number_out w8 (cast_unsigned w8 z)
label_out short z = signed_out w16 z
label_out ushort z = number_out w16 (cast_unsigned w16 z)
label_out long z = signed_out w32 z
label_out ulong z = number_out w32 (cast_unsigned w32 z)
label_out longlong z = signed_out w64 z
label_out ulonglong z = number_out w64 (cast_unsigned w64 z)
label_out (labels names) z = number_out w32 (cast_unsigned w32 z)
label_out _ z = λ out. out

-- the only value of a list
abbrev pub one_out : (Tree → Output → Output) → List Tree → Output → Output
one_out item (t ∷ []) out = item t out
one_out item _ out = out

-- an output with a value behind it; nothing is written of a value of another kind. That what is
-- written of a fitting value is read back is the law `written_values_are_read_back`
unfoldable mutual
  pub value_out : Shape → Tree → Output → Output
  value_out boolean (boolean_of b) = number_out w8 (if b then 1 else 0)
  value_out octet (octet_of n) = number_out w8 n
  value_out char (char_of n) = number_out w8 n
  value_out short (short_of z) = signed_out w16 z
  value_out ushort (ushort_of n) = number_out w16 n
  value_out long (long_of z) = signed_out w32 z
  value_out ulong (ulong_of n) = number_out w32 n
  value_out longlong (longlong_of z) = signed_out w64 z
  value_out ulonglong (ulonglong_of n) = number_out w64 n
  value_out (text bound) (text_of t) = string_out t
  value_out (octets bound) (octets_of t) = octets_out t
  value_out (labels names) (label_of n) = number_out w32 n
  value_out (members fs) (members_of ts) = fields_out fs (list_of ts)
  value_out (choice disc bs other) (choice_of label ts) =
      λ out. branches_out bs (fields_out other) label (list_of ts) (label_out disc label out)
  value_out (items s bound) (items_of ts) = sequence_out (value_out s) (list_of ts)
  value_out (row s n) (row_of ts) = items_out (value_out s) (list_of ts)
  value_out _ _ = λ out. out

  -- each member's value, one after the other
  pub fields_out : Fields → List Tree → Output → Output
  fields_out (field name s fs) (t ∷ ts) = λ out. fields_out fs ts (value_out s t out)
  fields_out _ _ = λ out. out

  -- the member of the first case that has the label, or else what is there by default
  pub branches_out : Branches → (List Tree → Output → Output) → ℤ → List Tree → Output → Output
  branches_out no_branches other label ts = other ts
  branches_out (branch ls name s bs) other label ts =
      if is_label label ls then one_out (value_out s) ts else branches_out bs other label ts
