-- Which descriptions describe no type of IDL: what is wrong with one node, and the first node in
-- reading order with which something is (CORBA 3.3 Part 2, 9.3.2).
use Rattle.std.specs.Prelude.{ℕ, ◌+◌, ◌-◌, ◌^◌, ◌==◌, nat_eq, nat_lt, ℤ, pos, neg_ℤ, int_le, int_lt, Bool}
use Rattle.std.specs.Prelude.{true, false, not, ◌&&◌, ◌||◌, List, [], ◌∷◌, ◌++◌, length, Option, Some, None}
use Rattle.std.specs.Prelude.{Result, Ok, Err, ◌≡◌}
use Rattle.std.specs.List.{list_any, list_all}
use Rattle.std.specs.Option.{option_or}
use Rattle.std.specs.Ordering.{int_eq}
use Rattle.std.specs.Cmp.Lexicographic.{pointwise}
use Rattle.giop_types.specs.declared.description.desc_fault.DescFault.{DescFault}
use Rattle.giop_types.specs.declared.description.desc_fault.DescFault.TheVariants.{Empty, Doubled, BadDiscriminant, TooDeep}
use Rattle.giop_types.specs.Descriptions.Shape.{Shape, boolean, char, short, ushort, long, ulong, longlong, ulonglong}
use Rattle.giop_types.specs.Descriptions.Shape.{labels, members, choice, items, row, Fields, no_fields, field, Branches}
use Rattle.giop_types.specs.Descriptions.Shape.{no_branches, branch}
use Rattle.giop_types.specs.Descriptions.Full.{is_discriminant, has_fields}

-- this fault, where a test finds it
abbrev pub fault_if : Bool → DescFault → Option DescFault
fault_if true e = Some e
fault_if false e = None

-- ---- what should have a part and has none

-- whether a union has a case
abbrev pub has_branches : Branches → Bool
has_branches no_branches = false
has_branches (branch ls name s bs) = true

-- whether a case has no label: each has one or more (9.3.2.3)
abbrev pub has_bare_branch : Branches → Bool
has_bare_branch no_branches = false
has_bare_branch (branch ls name s bs) = length ls == 0 || has_bare_branch bs

-- an enum without names, a struct without members, a union without cases or with a case that has
-- no label, an array of no items
abbrev pub is_empty : Shape → Bool
is_empty (labels names) = length names == 0
is_empty (members fs) = not (has_fields fs)
is_empty (choice disc bs other) = not (has_branches bs) || has_bare_branch bs
is_empty (row s n) = n == 0
is_empty _ = false

-- ---- discriminants and labels (9.3.2.3)

-- whether a number is from the first one to the last one
abbrev pub is_between : ℤ → ℤ → ℤ → Bool
is_between first last z = int_le first z && int_le z last

-- whether a number is an ordinal of an enum of so many names
abbrev pub is_ordinal : ℕ → ℤ → Bool
is_ordinal names z = int_le (pos 0) z && int_lt z (pos names)

-- whether a label is a value of a discriminant: a boolean is 0 or 1, a char its octet, an enum an
-- ordinal of one of its names
abbrev pub is_label_of : Shape → ℤ → Bool
is_label_of boolean z = is_between (pos 0) (pos 1) z
is_label_of char z = is_between (pos 0) (pos (2 ^ 8 - 1)) z
is_label_of short z = is_between (neg_ℤ (pos (2 ^ 15))) (pos (2 ^ 15 - 1)) z
is_label_of ushort z = is_between (pos 0) (pos (2 ^ 16 - 1)) z
is_label_of long z = is_between (neg_ℤ (pos (2 ^ 31))) (pos (2 ^ 31 - 1)) z
is_label_of ulong z = is_between (pos 0) (pos (2 ^ 32 - 1)) z
is_label_of longlong z = is_between (neg_ℤ (pos (2 ^ 63))) (pos (2 ^ 63 - 1)) z
is_label_of ulonglong z = is_between (pos 0) (pos (2 ^ 64 - 1)) z
is_label_of (labels names) z = is_ordinal (length names) z
is_label_of _ z = false

-- the labels of all cases
abbrev pub all_labels : Branches → List ℤ
all_labels no_branches = []
all_labels (branch ls name s bs) = ls ++ all_labels bs

-- a union of which the discriminant can be none, or a label is none of its values
abbrev pub has_bad_discriminant : Shape → Bool
has_bad_discriminant (choice disc bs other) =
    not (is_discriminant disc && list_all (is_label_of disc) (all_labels bs))
has_bad_discriminant _ = false

-- ---- names and labels that stand twice

-- whether two items of a list are equal
abbrev pub has_doubled : {A : Type 0} → (A → A → Bool) → List A → Bool
has_doubled equal [] = false
has_doubled equal (x ∷ xs) = list_any (λ y. equal y x) xs || has_doubled equal xs

-- whether an item of the first list is equal to a later one of it, or to one of the second list
abbrev pub is_repeated : {A : Type 0} → (A → A → Bool) → List A → List A → Bool
is_repeated equal [] later = false
is_repeated equal (x ∷ xs) later =
    list_any (λ y. equal y x) (xs ++ later) || is_repeated equal xs later

-- whether two names are octet for octet the same
abbrev pub same_name : List ℕ → List ℕ → Bool
same_name = pointwise nat_eq

-- the names of a struct's members, or of a union's default
abbrev pub field_names : Fields → List (List ℕ)
field_names no_fields = []
field_names (field name s fs) = name ∷ field_names fs

-- the names of a union's cases
abbrev pub branch_names : Branches → List (List ℕ)
branch_names no_branches = []
branch_names (branch ls name s bs) = name ∷ branch_names bs

-- two equal names in an enum, a struct or a union, with its default, or two equal labels in a union
abbrev pub has_doubles : Shape → Bool
has_doubles (labels names) = has_doubled same_name names
has_doubles (members fs) = has_doubled same_name (field_names fs)
has_doubles (choice disc bs other) =
    has_doubled same_name (field_names other ++ branch_names bs)
    || has_doubled int_eq (all_labels bs)
has_doubles _ = false

-- ---- faults

-- the fault of one node, wherever it stands
abbrev pub own_fault : Shape → Option DescFault
own_fault s =
    option_or (fault_if (is_empty s) Empty)
    (option_or (fault_if (has_bad_discriminant s) BadDiscriminant)
    (fault_if (has_doubles s) Doubled))

-- the fault of one node at a depth: the first that holds. The outermost node is 1 deep
abbrev pub node_fault : ℕ → Shape → Option DescFault
node_fault depth s = option_or (fault_if (nat_lt 32 depth) TooDeep) (own_fault s)

-- the fault of the first node in reading order that has one: the node itself before its parts, and
-- of a union the discriminant, then the cases in their order, then the default
unfoldable mutual
  pub desc_fault : ℕ → Shape → Option DescFault
  desc_fault depth (members fs) =
      option_or (node_fault depth (members fs)) (fields_fault (depth + 1) fs)
  desc_fault depth (choice disc bs other) =
      option_or (node_fault depth (choice disc bs other))
      (option_or (desc_fault (depth + 1) disc)
      (option_or (branches_fault (depth + 1) bs) (fields_fault (depth + 1) other)))
  desc_fault depth (items s bound) =
      option_or (node_fault depth (items s bound)) (desc_fault (depth + 1) s)
  desc_fault depth (row s n) = option_or (node_fault depth (row s n)) (desc_fault (depth + 1) s)
  desc_fault depth s = node_fault depth s

  pub fields_fault : ℕ → Fields → Option DescFault
  fields_fault depth no_fields = None
  fields_fault depth (field name s fs) = option_or (desc_fault depth s) (fields_fault depth fs)

  pub branches_fault : ℕ → Branches → Option DescFault
  branches_fault depth no_branches = None
  branches_fault depth (branch ls name s bs) =
      option_or (desc_fault depth s) (branches_fault depth bs)

-- what a check returns where this fault is there, or none
abbrev pub Tells : {A : Type 0} → Result A DescFault → Option DescFault → Type 0
Tells (Ok x) fault = fault ≡ None
Tells (Err e) fault = fault ≡ Some e
