-- What reading a value of a shape returns: the value and the cursor behind it, or the first fault
-- (CORBA 3.3 Part 2, 9.3.2 constructed types).
use Rattle.std.specs.Prelude.{ℕ, ℤ, pos, nat_lt, Bool, if◌then◌else◌, List, [], ◌∷◌, length, Ok, Err}
use Rattle.std.specs.List.{list_any}
use Rattle.std.specs.Ordering.{int_eq}
use Rattle.std.specs.Int.{w8, w16, w32, w64}
use Rattle.giop_cdr.specs.declared.fault.CdrKind.TheVariants.{BadLabel, BadCount, BoundPassed}
use Rattle.giop_cdr.specs.Reading.Cursor.{Cursor, place}
use Rattle.giop_cdr.specs.Reading.Values.{Reading, ◌>>=◌, fault, number_at, signed_at, boolean_at, count_at}
use Rattle.giop_cdr.specs.Reading.Values.{octets_at, string_at, passes, such_at, items_at}
use Rattle.giop_types.specs.Descriptions.Shape.{Shape, boolean, octet, char, short, ushort, long, ulong, longlong}
use Rattle.giop_types.specs.Descriptions.Shape.{ulonglong, text, octets, labels, members, choice, items, row, Fields}
use Rattle.giop_types.specs.Descriptions.Shape.{no_fields, field, Branches, no_branches, branch}
use Rattle.giop_types.specs.Values.Tree.{Tree, boolean_of, octet_of, char_of, short_of, ushort_of, long_of, ulong_of}
use Rattle.giop_types.specs.Values.Tree.{longlong_of, ulonglong_of, text_of, octets_of, label_of, members_of}
use Rattle.giop_types.specs.Values.Tree.{choice_of, items_of, row_of}
use Rattle.giop_types.specs.Values.Views.{trees_of}

-- a value that is read as another is
abbrev pub as_read : {A B : Type 0} → (A → B) → Reading A → Reading B
as_read f read = read >>= λ x. Ok (f x.0, x.1)

-- the ordinal of an enum of so many names, an unsigned long (9.3.2.6)
unfoldable pub ordinal_at : ℕ → Cursor → Reading ℕ
ordinal_at n = such_at (λ ordinal. nat_lt ordinal n) 4 BadLabel (number_at w32)

-- what a discriminant of this shape is: a boolean, a char, an ordinal or a number (9.3.2.3)
unfoldable pub label_at : Shape → Cursor → Reading ℤ
label_at boolean c = as_read (λ b. if b then pos 1 else pos 0) (boolean_at c)
label_at char c = as_read pos (number_at w8 c)
label_at short c = signed_at w16 c
label_at ushort c = as_read pos (number_at w16 c)
label_at long c = signed_at w32 c
label_at ulong c = as_read pos (number_at w32 c)
label_at longlong c = signed_at w64 c
label_at ulonglong c = as_read pos (number_at w64 c)
label_at (labels names) c = as_read pos (ordinal_at (length names) c)
label_at _ c = Err (fault c.at BadLabel)

-- n values one after the other: each takes an octet or more, so n above what remains is refused
unfoldable pub row_at : (Cursor → Reading Tree) → ℕ → Cursor → Reading (List Tree)
row_at item n c = if nat_lt (length c.rest) n then Err (fault c.at BadCount) else items_at item n c

-- a sequence whose count is within its bound, where 0 is none
unfoldable pub bounded_at : (Cursor → Reading Tree) → ℕ → Cursor → Reading (List Tree)
bounded_at item bound c = do
  n ← count_at c
  if passes bound n.0 then Err (fault (place 4 c) BoundPassed) else items_at item n.0 n.1

-- whether a label is among those of a case
abbrev pub is_label : ℤ → List ℤ → Bool
is_label label ls = list_any (λ l. int_eq l label) ls

-- what reading returns at a cursor, shape by shape as `Spells` says what is spelled and
-- `RefusedShape` what is refused; that it is exact is the law `values_are_spelled`
unfoldable mutual
  pub decode_at : Shape → Cursor → Reading Tree
  decode_at boolean c = as_read boolean_of (boolean_at c)
  decode_at octet c = as_read octet_of (number_at w8 c)
  decode_at char c = as_read char_of (number_at w8 c)
  decode_at short c = as_read short_of (signed_at w16 c)
  decode_at ushort c = as_read ushort_of (number_at w16 c)
  decode_at long c = as_read long_of (signed_at w32 c)
  decode_at ulong c = as_read ulong_of (number_at w32 c)
  decode_at longlong c = as_read longlong_of (signed_at w64 c)
  decode_at ulonglong c = as_read ulonglong_of (number_at w64 c)
  decode_at (text bound) c = as_read text_of (string_at bound c)
  decode_at (octets bound) c = as_read octets_of (octets_at bound c)
  decode_at (labels names) c = as_read label_of (ordinal_at (length names) c)
  decode_at (members fs) c = as_read (λ ts. members_of (trees_of ts)) (fields_at fs c)
  decode_at (choice disc bs other) c = do
    label ← label_at disc c
    as_read (λ ts. choice_of label.0 (trees_of ts))
        (branches_at bs (fields_at other) label.0 label.1)
  decode_at (items s bound) c =
      as_read (λ ts. items_of (trees_of ts)) (bounded_at (decode_at s) bound c)
  decode_at (row s n) c = as_read (λ ts. row_of (trees_of ts)) (row_at (decode_at s) n c)

  -- the members of a struct in their order
  pub fields_at : Fields → Cursor → Reading (List Tree)
  fields_at no_fields c = Ok ([], c)
  fields_at (field name s fs) c = do
    first ← decode_at s c
    others ← fields_at fs first.1
    Ok (first.0 ∷ others.0, others.1)

  -- the member that the label selects: one, or none
  pub branches_at : Branches → (Cursor → Reading (List Tree)) → ℤ → Cursor → Reading (List Tree)
  branches_at no_branches other label c = other c
  branches_at (branch ls name s bs) other label c =
      if is_label label ls then as_read (λ t. t ∷ []) (decode_at s c)
      else branches_at bs other label c
