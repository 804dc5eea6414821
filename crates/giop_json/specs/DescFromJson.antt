-- The description that a JSON value or a JSON text is.
use Rattle.std.specs.Prelude.{ℕ, zero, suc, ◌^◌, ◌==◌, nat_lt, codes, bytes_eq, if◌then◌else◌}
use Rattle.std.specs.Prelude.{List, Option, Some, None, option_map, option_and_then, Result, Ok, Err}
use Rattle.std.specs.Str.{is_utf8}
use Rattle.serde_json.specs.Data as json
use Rattle.serde_json.specs.Find.{get, as_str, as_number, as_u64, as_array}
use Rattle.serde_json.specs.Read.{read}
use Rattle.giop_types.specs.declared.description.desc_fault.DescFault.{DescFault}
use Rattle.giop_json.specs.declared.form_fault.FormFault.{FormFault}
use Rattle.giop_json.specs.declared.form_fault.FormFault.TheVariants.{BadJson, BadShape, BadDesc}
use Rattle.giop_types.specs.Descriptions.Shape.{Shape, boolean, octet, char, short, ushort, long, ulong, longlong}
use Rattle.giop_types.specs.Descriptions.Shape.{ulonglong, text, octets, labels, members, choice, items, row, Fields}
use Rattle.giop_types.specs.Descriptions.Shape.{no_fields, field}
use Rattle.giop_types.specs.Values.Views.{Named, Selected, fields_of, branches_of}
use Rattle.giop_types.specs.Descriptions.Checked.{desc_fault}
use Rattle.giop_json.specs.FromJson.{in_object, items_shown, octets_shown, label_shown}
use Rattle.giop_json.specs.Reference.{reference_shape}

-- ---- numbers and lists

-- a number that an unsigned long holds
abbrev pub if_ulong : ℕ → Option ℕ
if_ulong n = if nat_lt n (2 ^ 32) then Some n else None

-- an unsigned long
abbrev pub ulong_in : json.Data → Option ℕ
ulong_in d = option_and_then if_ulong (option_and_then as_u64 (as_number d))

-- a number of 1 or more
abbrev pub if_positive : ℕ → Option ℕ
if_positive n = if n == 0 then None else Some n

-- a bound: an unsigned long of 1 or more
abbrev pub bound_in : json.Data → Option ℕ
bound_in d = option_and_then if_positive (ulong_in d)

-- what each item of a list is, where each is one
abbrev pub list_in : {A : Type 0} → (json.Data → Option A) → json.Data → Option (List A)
list_in item d = option_and_then (items_shown item) (as_array d)

-- the two items of a list
abbrev pub pair_in : json.Items → Option (json.Data × json.Data)
pair_in (json.item a (json.item b json.no_items)) = Some (a, b)
pair_in _ = None

-- the three items of a list
abbrev pub triple_in : json.Items → Option (json.Data × json.Data × json.Data)
triple_in (json.item a (json.item b (json.item c json.no_items))) = Some (a, b, c)
triple_in _ = None

-- what JSON says under a key, where it is there, and else what it says without the key
abbrev pub by_key : {A B : Type 0} → Option A → (A → Option B) → Option B → Option B
by_key (Some part) told other = told part
by_key None told other = other

-- ---- descriptions by their names alone

-- one name, or another
abbrev pub or_named : List ℕ → List ℕ → Shape → Option Shape → Option Shape
or_named name s shape other = if bytes_eq s name then Some shape else other

-- the description of a name
abbrev pub named_shape : List ℕ → Option Shape
named_shape s =
    or_named (codes "boolean") s boolean
    (or_named (codes "octet") s octet (or_named (codes "char") s char
    (or_named (codes "short") s short
    (or_named (codes "ushort") s ushort (or_named (codes "long") s long
    (or_named (codes "ulong") s ulong
    (or_named (codes "longlong") s longlong (or_named (codes "ulonglong") s ulonglong
    (or_named (codes "string") s (text 0) (or_named (codes "octets") s (octets 0)
    (or_named (codes "reference") s reference_shape None)))))))))))

-- ---- descriptions by objects, over the reading of their parts

-- a string, or a sequence of octets, of so many octets at most
abbrev pub text_in : json.Data → json.Data → Option Shape
text_in d bound = in_object 1 (λ x. option_map text (bound_in bound)) d

abbrev pub octets_in : json.Data → json.Data → Option Shape
octets_in d bound = in_object 1 (λ x. option_map octets (bound_in bound)) d

-- an enum, by its names
abbrev pub enum_in : json.Data → json.Data → Option Shape
enum_in d names = in_object 1 (λ x. option_map labels (list_in octets_shown names)) d

-- a name and a description
abbrev pub member_of : (json.Data → Option Shape) → json.Data × json.Data → Option Named
member_of inner pair =
    option_and_then (λ name. option_map (λ s. record { name = name; shape = s }) (inner pair.1))
    (octets_shown pair.0)

-- a member: a list of its name and its description
abbrev pub member_in : (json.Data → Option Shape) → json.Data → Option Named
member_in inner d = option_and_then (member_of inner) (option_and_then pair_in (as_array d))

-- a struct, by its members
abbrev pub struct_in : (json.Data → Option Shape) → json.Data → json.Data → Option Shape
struct_in inner d ms =
    in_object 1 (λ x. option_map (λ fs. members (fields_of fs)) (list_in (member_in inner) ms)) d

-- the bound beside a sequence's item, where it has one, and no other key
abbrev pub bound_beside : json.Data → Option ℕ
bound_beside d = by_key (get (codes "bound") d) (λ bound. in_object 2 (λ x. bound_in bound) d)
    (in_object 1 (λ x. Some 0) d)

-- a sequence, by its item
abbrev pub sequence_in : (json.Data → Option Shape) → json.Data → json.Data → Option Shape
sequence_in inner d item =
    option_and_then (λ bound. option_map (λ s. items s bound) (inner item)) (bound_beside d)

-- the length beside an array's item, and no other key
abbrev pub length_beside : json.Data → Option ℕ
length_beside d = by_key (get (codes "length") d) (λ n. in_object 2 (λ x. ulong_in n) d) None

-- an array, by its item
abbrev pub array_in : (json.Data → Option Shape) → json.Data → json.Data → Option Shape
array_in inner d item =
    option_and_then (λ n. option_map (λ s. row s n) (inner item)) (length_beside d)

-- a case's labels, its name and its description
abbrev pub case_of : (json.Data → Option Shape) → Shape → json.Data × json.Data × json.Data
    → Option Selected
case_of inner disc parts =
    option_and_then (λ ls. option_and_then
    (λ name. option_map (λ s. record { labels = ls; name = name; shape = s })
    (inner parts.2)) (octets_shown parts.1)) (list_in (label_shown disc) parts.0)

-- a case: a list of its labels, its name and its description
abbrev pub case_in : (json.Data → Option Shape) → Shape → json.Data → Option Selected
case_in inner disc d = option_and_then (case_of inner disc) (option_and_then triple_in (as_array d))

-- the only member that there is by default
abbrev pub one_field : Named → Fields
one_field m = field m.name m.shape no_fields

-- the default beside a union's cases, where it has one, and no other key
abbrev pub default_beside : (json.Data → Option Shape) → json.Data → Option Fields
default_beside inner d =
    by_key (get (codes "default") d)
    (λ m. in_object 3 (λ x. option_map one_field (member_in inner m)) d)
    (in_object 2 (λ x. Some no_fields) d)

-- the cases beside a union's discriminant
abbrev pub cases_beside : (json.Data → Option Shape) → Shape → json.Data → Option (List Selected)
cases_beside inner disc d = option_and_then (list_in (case_in inner disc)) (get (codes "cases") d)

-- a union, by its discriminant
abbrev pub union_in : (json.Data → Option Shape) → json.Data → json.Data → Option Shape
union_in inner d disc =
    option_and_then (λ s. option_and_then
    (λ cases. option_map (λ other. choice s (branches_of cases) other)
    (default_beside inner d)) (cases_beside inner s d)) (inner disc)

-- a description by the first of these keys that an object has
abbrev pub composed_in : (json.Data → Option Shape) → json.Data → Option Shape
composed_in inner d =
    by_key (get (codes "string") d) (text_in d) (by_key (get (codes "octets") d) (octets_in d)
    (by_key (get (codes "enum") d) (enum_in d) (by_key (get (codes "struct") d) (struct_in inner d)
    (by_key (get (codes "sequence") d) (sequence_in inner d)
    (by_key (get (codes "array") d) (array_in inner d)
    (by_key (get (codes "union") d) (union_in inner d) None))))))

-- ---- descriptions

-- the description that a JSON value is, read so many descriptions deep
unfoldable pub desc_in : ℕ → json.Data → Option Shape
desc_in zero d = None
desc_in (suc levels) d = by_key (as_str d) named_shape (composed_in (desc_in levels) d)

-- the JSON value of a text in UTF-8
abbrev pub json_in : List ℕ → Option json.Data
json_in bytes = if is_utf8 bytes then read bytes else None

-- what is judged, where nothing is wrong
abbrev pub judged : {A : Type 0} → A → Option DescFault → Result A FormFault
judged x None = Ok x
judged x (Some fault) = Err (BadDesc fault)

-- what a JSON value describes: another form is reported before what is wrong with a description
abbrev pub described : Option Shape → Result Shape FormFault
described None = Err BadShape
described (Some s) = judged s (desc_fault 1 s)

-- what a JSON text describes; no JSON that is read nests more than 127 deep, and so many
-- descriptions
abbrev pub desc_told : Option json.Data → Result Shape FormFault
desc_told None = Err BadJson
desc_told (Some d) = described (desc_in 128 d)
