-- The value that a JSON value shows.
use Rattle.std.specs.Prelude.{◌≡◌, ◌⊎◌, ℕ, ◌+◌, ℤ, pos, negsuc, ◌^◌, ◌==◌, nat_lt, codes, Bool, false}
use Rattle.std.specs.Prelude.{if◌then◌else◌, List, [], ◌∷◌, length, Option, Some, None, option_map, option_and_then}
use Rattle.std.specs.Prelude.{unwrap_or, bytes_eq, Result, Ok, Err}
use Rattle.hex.specs.Hex.{decode_of}
use Rattle.std.specs.Result.{result_ok}
use Rattle.serde_json.specs.Data as json
use Rattle.serde_json.specs.Find.{get, as_null, as_bool, as_number, as_str, as_array, as_object, as_integer}
use Rattle.serde_json.specs.Events.{members_len}
use Rattle.giop_json.specs.declared.form_fault.FormFault.{FormFault}
use Rattle.giop_json.specs.declared.form_fault.FormFault.TheVariants.{BadShape, Unfit, NoMemory}
use Rattle.giop_types.specs.declared.value.Value.{Value}
use Rattle.giop_types.specs.Descriptions.Shape.{Shape, boolean, octet, char, short, ushort, long, ulong, longlong}
use Rattle.giop_types.specs.Descriptions.Shape.{text, octets, labels, members, choice, items, row, Fields}
use Rattle.giop_types.specs.Descriptions.Shape.{no_fields, field, Branches, no_branches, branch}
use Rattle.giop_types.specs.Values.Tree.{Tree, boolean_of, octet_of, char_of, short_of, ushort_of, long_of, ulong_of}
use Rattle.giop_types.specs.Values.Tree.{longlong_of, ulonglong_of, text_of, octets_of, label_of, members_of}
use Rattle.giop_types.specs.Values.Tree.{choice_of, items_of, row_of}
use Rattle.giop_types.specs.Values.Views.{trees_of, value_view}
use Rattle.giop_types.specs.Coding.Decoding.{is_label}
use Rattle.giop_types.specs.Values.Fits.{fits}
use Rattle.giop_json.specs.JsonText as utf8
use Rattle.giop_json.specs.NumberText.{whole_told}
use Rattle.giop_json.specs.Reference.{is_reference, reference_shown}

-- ---- numbers: one that its type can't hold is shown as the longer one that it is, which doesn't
-- fit

-- a number of 0 or more
abbrev pub natural_tree : Shape → ℕ → Tree
natural_tree octet n = if nat_lt n (2 ^ 8) then octet_of n else ulonglong_of n
natural_tree short n = if nat_lt n (2 ^ 15) then short_of (pos n) else ulonglong_of n
natural_tree ushort n = if nat_lt n (2 ^ 16) then ushort_of n else ulonglong_of n
natural_tree long n = if nat_lt n (2 ^ 31) then long_of (pos n) else ulonglong_of n
natural_tree ulong n = if nat_lt n (2 ^ 32) then ulong_of n else ulonglong_of n
natural_tree longlong n = if nat_lt n (2 ^ 63) then longlong_of (pos n) else ulonglong_of n
natural_tree _ n = ulonglong_of n

-- a number below 0: - (n + 1)
abbrev pub negative_tree : Shape → ℕ → Tree
negative_tree short n = if nat_lt n (2 ^ 15) then short_of (negsuc n) else longlong_of (negsuc n)
negative_tree long n = if nat_lt n (2 ^ 31) then long_of (negsuc n) else longlong_of (negsuc n)
negative_tree _ n = longlong_of (negsuc n)

abbrev pub number_tree : Shape → ℤ → Tree
number_tree s (pos n) = natural_tree s n
number_tree s (negsuc n) = negative_tree s n

-- what a number says without fraction or exponent, or else a text
abbrev pub said_by : Option json.Num → Option (List ℕ) → Option ℤ
said_by (Some n) s = as_integer n
said_by None s = option_and_then whole_told s

-- a whole number, or the text of one
abbrev pub whole : json.Data → Option ℤ
whole d = said_by (as_number d) (as_str d)

-- ---- texts

-- the octets of a text
abbrev pub octets_shown : json.Data → Option (List ℕ)
octets_shown d = option_and_then utf8.octets_in (as_str d)

-- the only octet of a list
abbrev pub only_octet : List ℕ → Option ℕ
only_octet (n ∷ []) = Some n
only_octet _ = None

-- the octet of a text of one character
abbrev pub char_shown : json.Data → Option ℕ
char_shown d = option_and_then only_octet (octets_shown d)

-- the octets of hexadecimal digits
abbrev pub hex_shown : json.Data → Option (List ℕ)
hex_shown d = option_and_then (λ s. result_ok (decode_of s)) (as_str d)

-- the ordinal of the first name that has this text: how many names there are, where none has
abbrev pub ordinal_in : List ℕ → List (List ℕ) → ℕ
ordinal_in s [] = 0
ordinal_in s (name ∷ names) = if bytes_eq (utf8.text_of name) s then 0 else ordinal_in s names + 1

-- the ordinal of a name; how many names there are stands for a name that is none of them
abbrev pub name_shown : List (List ℕ) → List ℕ → Option ℕ
name_shown names s =
    if nat_lt (ordinal_in s names) (length names) then Some (ordinal_in s names)
    else option_map (λ t. length names) (utf8.octets_in s)

abbrev pub ordinal_shown : List (List ℕ) → json.Data → Option ℕ
ordinal_shown names d = option_and_then (name_shown names) (as_str d)

-- an ordinal, where an unsigned long can hold it
abbrev pub ordinal_tree : ℕ → Tree
ordinal_tree n = if nat_lt n (2 ^ 32) then label_of n else ulonglong_of n

-- a discriminant, by its number: of a boolean 0 or 1, of a char its octet, of an enum its ordinal
abbrev pub label_shown : Shape → json.Data → Option ℤ
label_shown boolean d = option_map (λ b. if b then pos 1 else pos 0) (as_bool d)
label_shown char d = option_map pos (char_shown d)
label_shown (labels names) d = option_map pos (ordinal_shown names d)
label_shown disc d = whole d

-- ---- lists and objects

-- the values of a list, where each has one
abbrev pub items_shown : {A : Type 0} → (json.Data → Option A) → json.Items → Option (List A)
items_shown f json.no_items = Some []
items_shown f (json.item d ds) =
    option_and_then (λ t. option_map (λ ts. t ∷ ts) (items_shown f ds)) (f d)

-- an object of so many members
abbrev pub is_object_of : ℕ → json.Data → Bool
is_object_of n d = unwrap_or (option_map (λ ms. members_len ms == n) (as_object d)) false

-- what an object of so many members shows, and no other
abbrev pub in_object : {A : Type 0} → ℕ → (json.Data → Option A) → json.Data → Option A
in_object n read d = if is_object_of n d then read d else None

-- the discriminant and the member of a union
abbrev pub both_parts : json.Data → Option (json.Data × json.Data)
both_parts d = option_and_then
    (λ label. option_map (λ member. (label, member)) (get (codes "value") d)) (get (codes "disc") d)

-- the discriminant and the member of a union, in an object of these two
abbrev pub union_parts : json.Data → Option (json.Data × json.Data)
union_parts d = in_object 2 both_parts d

-- one value
abbrev pub one_shown : Option Tree → Option (List Tree)
one_shown o = option_map (λ t. t ∷ []) o

-- how many members a struct has
abbrev pub field_count : Fields → ℕ
field_count no_fields = 0
field_count (field name s fs) = field_count fs + 1

-- ---- values, whatever their ranges, bounds, names and lengths

unfoldable mutual
  pub shown : Shape → json.Data → Option Tree
  shown boolean d = option_map boolean_of (as_bool d)
  shown char d = option_map char_of (char_shown d)
  shown (text bound) d = option_map text_of (octets_shown d)
  shown (octets bound) d = option_map octets_of (hex_shown d)
  shown (labels names) d = option_map ordinal_tree (ordinal_shown names d)
  shown (members fs) d =
      if is_reference fs then reference_shown (members fs) d
      else option_map (λ ts. members_of (trees_of ts))
      (in_object (field_count fs) (fields_shown fs) d)
  shown (choice disc bs other) d = option_and_then (λ parts. option_and_then (λ label.
      option_map (λ ts. choice_of label (trees_of ts))
      (branches_shown bs (fallback_shown other) label parts.1)) (label_shown disc parts.0))
      (union_parts d)
  shown (items s bound) d =
      option_map (λ ts. items_of (trees_of ts))
      (option_and_then (items_shown (shown s)) (as_array d))
  shown (row s n) d =
      option_map (λ ts. row_of (trees_of ts)) (option_and_then (items_shown (shown s)) (as_array d))
  shown s d = option_map (number_tree s) (whole d)

  -- the members of a struct, each under its name
  pub fields_shown : Fields → json.Data → Option (List Tree)
  fields_shown no_fields d = Some []
  fields_shown (field name s fs) d =
      option_and_then (λ t. option_map (λ ts. t ∷ ts) (fields_shown fs d))
      (option_and_then (shown s) (get (utf8.text_of name) d))

  -- the member of a union that its label selects
  pub branches_shown : Branches → (json.Data → Option (List Tree)) → ℤ → json.Data
      → Option (List Tree)
  branches_shown no_branches other label d = other d
  branches_shown (branch ls name s bs) other label d =
      if is_label label ls then one_shown (shown s d) else branches_shown bs other label d

  -- the member of a union by default, or null
  pub fallback_shown : Fields → json.Data → Option (List Tree)
  fallback_shown no_fields d = option_map (λ x. []) (as_null d)
  fallback_shown (field name s fs) d = one_shown (shown s d)

-- the members of a struct, in an object that has no other
abbrev pub members_shown : Fields → json.Data → Option (List Tree)
members_shown fs d = in_object (field_count fs) (fields_shown fs) d

-- ---- what reading returns

-- a value of this form was made, or none is there, or it is out of memory
abbrev pub Shows : {A B : Type 0} → (A → B) → Result A FormFault → Option B → Type 0
Shows view (Ok x) form = form ≡ Some (view x)
Shows view (Err e) form = ((e ≡ BadShape) × (form ≡ None)) ⊎ (e ≡ NoMemory)

-- a case's value was made, or none is there and the form is another one's
abbrev pub ShowsCase : Result (Option Value) FormFault → Option (List Tree) → Option (List Tree)
    → Type 0
ShowsCase (Ok (Some v)) form other = form ≡ Some (value_view v ∷ [])
ShowsCase (Ok None) form other = form ≡ other
ShowsCase (Err e) form other = ((e ≡ BadShape) × (form ≡ None)) ⊎ (e ≡ NoMemory)

-- the value that was shown, where it fits
abbrev pub fitting : Shape → Option Tree → Result Tree FormFault
fitting s None = Err BadShape
fitting s (Some t) = if fits s t then Ok t else Err Unfit

-- the value of a description that a JSON value is: another form is reported before a value that
-- is unfit
abbrev pub from_data : Shape → json.Data → Result Tree FormFault
from_data s d = fitting s (shown s d)

-- what was made is the answer, or its refusal was returned, or it is out of memory
abbrev pub Reads : {A B : Type 0} → (A → B) → Result A FormFault → Result B FormFault → Type 0
Reads view (Ok x) answer = answer ≡ Ok (view x)
Reads view (Err e) answer = (answer ≡ Err e) ⊎ (e ≡ NoMemory)

-- what was written of a value is read as that value, or reading is out of memory
abbrev pub ReadsBack : Tree → Result Value FormFault → Type 0
ReadsBack t (Ok v) = value_view v ≡ t
ReadsBack t (Err e) = e ≡ NoMemory
