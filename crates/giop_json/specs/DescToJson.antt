-- The JSON value that a description is written as: one of those that DescFromJson reads as it.
use Rattle.std.specs.Prelude.{ℕ, zero, suc, ◌&&◌, codes, Bool, true, List, map}
use Rattle.std.specs.List.{list_all}
use Rattle.serde_json.specs.Data as json
use Rattle.serde_json.specs.View.{items_of as json_items}
use Rattle.giop_json.specs.declared.number_form.NumberForm.TheVariants.{Plain}
use Rattle.giop_types.specs.Descriptions.Shape.{Shape, boolean, octet, char, short, ushort, long, ulong, longlong}
use Rattle.giop_types.specs.Descriptions.Shape.{ulonglong, text, octets, labels, members, choice, items, row, Fields}
use Rattle.giop_types.specs.Descriptions.Shape.{no_fields, field, Branches, no_branches, branch}
use Rattle.giop_json.specs.ToJson.{label_data, natural_data, text_data}
use Rattle.giop_types.specs.Values.Fits.{are_octets, fits_label, is_unsigned}

-- ---- what JSON can say

-- names of octets, bounds and lengths that an unsigned long holds, and labels of their discriminant
unfoldable mutual
  pub is_sayable : Shape → Bool
  is_sayable (text bound) = is_unsigned 32 bound
  is_sayable (octets bound) = is_unsigned 32 bound
  is_sayable (labels names) = list_all are_octets names
  is_sayable (members fs) = fields_sayable fs
  is_sayable (choice disc bs other) =
      is_sayable disc && (branches_sayable disc bs && fields_sayable other)
  is_sayable (items s bound) = is_unsigned 32 bound && is_sayable s
  is_sayable (row s n) = is_unsigned 32 n && is_sayable s
  is_sayable _ = true

  pub fields_sayable : Fields → Bool
  fields_sayable no_fields = true
  fields_sayable (field name s fs) = are_octets name && (is_sayable s && fields_sayable fs)

  pub branches_sayable : Shape → Branches → Bool
  branches_sayable disc no_branches = true
  branches_sayable disc (branch ls name s bs) = list_all (fits_label disc) ls
      && (are_octets name && (is_sayable s && branches_sayable disc bs))

-- ---- objects and lists

-- an object of one key, and of two
abbrev pub one_key : List ℕ → json.Data → json.Members
one_key key part = json.put key part json.no_members

abbrev pub two_keys : List ℕ → json.Data → List ℕ → json.Data → json.Members
two_keys key part other more = json.put other more (one_key key part)

-- a list of two, and of three
abbrev pub pair : json.Data → json.Data → json.Data
pair a b = json.array (json.item a (json.item b json.no_items))

abbrev pub triple : json.Data → json.Data → json.Data → json.Data
triple a b c = json.array (json.item a (json.item b (json.item c json.no_items)))

-- a description by its name, or with a bound by an object
abbrev pub bounded_data : List ℕ → ℕ → json.Data
bounded_data name zero = json.string name
bounded_data name (suc n) = json.object (one_key name (natural_data (suc n)))

-- a sequence of this item, without a bound or with one
abbrev pub sequence_data : json.Data → ℕ → json.Data
sequence_data item zero = json.object (one_key (codes "sequence") item)
sequence_data item (suc n) =
    json.object (two_keys (codes "sequence") item (codes "bound") (natural_data (suc n)))

-- ---- descriptions

unfoldable mutual
  pub desc_data : Shape → json.Data
  desc_data boolean = json.string (codes "boolean")
  desc_data octet = json.string (codes "octet")
  desc_data char = json.string (codes "char")
  desc_data short = json.string (codes "short")
  desc_data ushort = json.string (codes "ushort")
  desc_data long = json.string (codes "long")
  desc_data ulong = json.string (codes "ulong")
  desc_data longlong = json.string (codes "longlong")
  desc_data ulonglong = json.string (codes "ulonglong")
  desc_data (text bound) = bounded_data (codes "string") bound
  desc_data (octets bound) = bounded_data (codes "octets") bound
  desc_data (labels names) =
      json.object (one_key (codes "enum") (json.array (json_items (map text_data names))))
  desc_data (members fs) = json.object (one_key (codes "struct") (json.array (members_data fs)))
  desc_data (choice disc bs other) =
      json.object (default_data other (two_keys (codes "union") (desc_data disc)
      (codes "cases") (json.array (cases_data disc bs))))
  desc_data (items s bound) = sequence_data (desc_data s) bound
  desc_data (row s n) =
      json.object (two_keys (codes "array") (desc_data s) (codes "length") (natural_data n))

  -- a list of members, each of its name and its description
  pub members_data : Fields → json.Items
  members_data no_fields = json.no_items
  members_data (field name s fs) =
      json.item (pair (text_data name) (desc_data s)) (members_data fs)

  -- a list of cases, each of its labels, its name and its description
  pub cases_data : Shape → Branches → json.Items
  cases_data disc no_branches = json.no_items
  cases_data disc (branch ls name s bs) =
      json.item (triple (json.array (json_items (map (label_data Plain disc) ls)))
      (text_data name) (desc_data s)) (cases_data disc bs)

  -- the member by default beside other keys, where there is one
  pub default_data : Fields → json.Members → json.Members
  default_data no_fields others = others
  default_data (field name s fs) others =
      json.put (codes "default") (pair (text_data name) (desc_data s)) others
