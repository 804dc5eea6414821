-- The JSON value that a value is written as.
use Rattle.std.specs.Prelude.{ℕ, ℤ, pos, negsuc, ◌^◌, ◌-◌, nat_lt, codes, Bool, not, if◌then◌else◌}
use Rattle.std.specs.Prelude.{List, [], ◌∷◌, map, Option, Some, None, option_map, unwrap_or}
use Rattle.std.specs.List.{slice_get}
use Rattle.std.specs.Ordering.{int_eq}
use Rattle.std.specs.Fmt.{signed_decimal}
use Rattle.hex.specs.Hex.{encode_lower}
use Rattle.serde_json.specs.Data as json
use Rattle.serde_json.specs.Find.{of_integer}
use Rattle.serde_json.specs.View.{items_of as json_items}
use Rattle.giop_json.specs.declared.number_form.NumberForm.{NumberForm}
use Rattle.giop_json.specs.declared.number_form.NumberForm.TheVariants.{Plain, Quoted}
use Rattle.giop_types.specs.Descriptions.Shape.{Shape, boolean, octet, char, short, ushort, long, ulong, longlong}
use Rattle.giop_types.specs.Descriptions.Shape.{ulonglong, text, octets, labels, members, choice, items, row, Fields}
use Rattle.giop_types.specs.Descriptions.Shape.{no_fields, field, Branches, no_branches, branch}
use Rattle.giop_types.specs.Values.Tree.{Tree, boolean_of, octet_of, char_of, short_of, ushort_of, long_of, ulong_of}
use Rattle.giop_types.specs.Values.Tree.{longlong_of, ulonglong_of, text_of, octets_of, label_of, members_of}
use Rattle.giop_types.specs.Values.Tree.{choice_of, items_of, row_of}
use Rattle.giop_types.specs.Coding.Decoding.{is_label}
use Rattle.giop_types.specs.Descriptions.Checked.{is_between}
use Rattle.giop_types.specs.Values.Fits.{list_of}
use Rattle.giop_json.specs.JsonText as utf8
use Rattle.giop_json.specs.Reference.{is_reference, reference_data}

-- the text of octets
abbrev pub text_data : List ℕ → json.Data
text_data t = json.string (utf8.text_of t)

-- an unsigned number
abbrev pub natural_data : ℕ → json.Data
natural_data n = json.number (json.unsigned n)

-- a signed number
abbrev pub integer_data : ℤ → json.Data
integer_data z = json.number (of_integer z)

-- the name of an ordinal; null where it has none
abbrev pub name_data : List (List ℕ) → ℕ → json.Data
name_data names n = unwrap_or (option_map text_data (slice_get names n)) json.null

-- the name of an ordinal, which is an unsigned long
abbrev pub ordinal_data : List (List ℕ) → ℕ → json.Data
ordinal_data names n = if nat_lt n (2 ^ 32) then name_data names n else json.null

-- the name of an ordinal, or the text of a char, by its number; null below 0
abbrev pub by_natural : (ℕ → json.Data) → ℤ → json.Data
by_natural f (pos n) = f n
by_natural f (negsuc n) = json.null

-- a number of at most 2^53 - 1 in absolute value: no other whole number is rounded to it as a float
-- of 64 bits
abbrev pub is_safe : ℤ → Bool
is_safe z = is_between (negsuc (2 ^ 53 - 2)) (pos (2 ^ 53 - 1)) z

-- a number in a form: where texts are asked for, its digits beyond those numbers
abbrev pub number_data : NumberForm → ℤ → json.Data
number_data Plain z = integer_data z
number_data Quoted z = if is_safe z then integer_data z else json.string (signed_decimal z)

-- a number of 64 bits at most; null where it has more
abbrev pub whole_data : NumberForm → ℤ → json.Data
whole_data numbers z =
    if is_between (negsuc (2 ^ 63 - 1)) (pos (2 ^ 64 - 1)) z then number_data numbers z
    else json.null

-- a char by its octet; null where it is none
abbrev pub char_data : ℕ → json.Data
char_data n = if nat_lt n (2 ^ 8) then text_data (n ∷ []) else json.null

-- a discriminant, by its number
abbrev pub label_data : NumberForm → Shape → ℤ → json.Data
label_data numbers boolean z = json.boolean (not (int_eq z (pos 0)))
label_data numbers char z = by_natural char_data z
label_data numbers (labels names) z = by_natural (ordinal_data names) z
label_data numbers disc z = whole_data numbers z

-- the only one of a list; null where it has none
abbrev pub only_data : (Tree → json.Data) → List Tree → json.Data
only_data f [] = json.null
only_data f (t ∷ ts) = f t

-- the member of a union that a label selects, where it selects one
abbrev pub selected : Branches → Fields → ℤ → Option Shape
selected no_branches no_fields label = None
selected no_branches (field name s fs) label = Some s
selected (branch ls name s bs) other label =
    if is_label label ls then Some s else selected bs other label

-- a union: its discriminant, and its member
abbrev pub choice_data : json.Data → json.Data → json.Data
choice_data label member =
    json.object (json.put (codes "value") member (json.put (codes "disc") label json.no_members))

unfoldable mutual
  pub to_data : NumberForm → Shape → Tree → json.Data
  to_data numbers boolean (boolean_of b) = json.boolean b
  to_data numbers octet (octet_of n) = natural_data n
  to_data numbers char (char_of n) = text_data (n ∷ [])
  to_data numbers short (short_of z) = integer_data z
  to_data numbers ushort (ushort_of n) = natural_data n
  to_data numbers long (long_of z) = integer_data z
  to_data numbers ulong (ulong_of n) = natural_data n
  to_data numbers longlong (longlong_of z) = whole_data numbers z
  to_data numbers ulonglong (ulonglong_of n) = whole_data numbers (pos n)
  to_data numbers (text bound) (text_of t) = text_data t
  to_data numbers (octets bound) (octets_of t) = json.string (encode_lower t)
  to_data numbers (labels names) (label_of n) = name_data names n
  to_data numbers (members fs) (members_of ts) =
      if is_reference fs then reference_data (members fs) (members_of ts)
      else json.object (fields_data numbers fs (list_of ts) json.no_members)
  to_data numbers (choice disc bs other) (choice_of label ts) =
      choice_data (label_data numbers disc label)
      (branches_data numbers bs (fallback_data numbers other) label (list_of ts))
  to_data numbers (items s bound) (items_of ts) =
      json.array (json_items (map (to_data numbers s) (list_of ts)))
  to_data numbers (row s n) (row_of ts) =
      json.array (json_items (map (to_data numbers s) (list_of ts)))
  to_data numbers _ _ = json.null

  -- these members, put into an object one after the other
  pub fields_data : NumberForm → Fields → List Tree → json.Members → json.Members
  fields_data numbers (field name s fs) (t ∷ ts) object =
      fields_data numbers fs ts (json.put (utf8.text_of name) (to_data numbers s t) object)
  fields_data numbers _ _ object = object

  -- the member of a union that its label selects
  pub branches_data : NumberForm → Branches → (List Tree → json.Data) → ℤ → List Tree → json.Data
  branches_data numbers no_branches other label ts = other ts
  branches_data numbers (branch ls name s bs) other label ts =
      if is_label label ls then only_data (to_data numbers s) ts
      else branches_data numbers bs other label ts

  -- the member of a union by default
  pub fallback_data : NumberForm → Fields → List Tree → json.Data
  fallback_data numbers no_fields ts = json.null
  fallback_data numbers (field name s fs) ts = only_data (to_data numbers s) ts

-- the member that a label selects, or null
abbrev pub selected_data : NumberForm → Option Shape → List Tree → json.Data
selected_data numbers None ts = json.null
selected_data numbers (Some s) ts = only_data (to_data numbers s) ts
