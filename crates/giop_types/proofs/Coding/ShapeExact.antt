-- A value of a full shape that is read is one that is spelled, and what is refused is refused.
use Rattle.std.proofs.Common.{◌≡◌, ℤ, pos, nat_lt, ◌&&◌, true, if◌then◌else◌, [], ◌∷◌, length}
use Rattle.std.specs.Int.{w8, w16, w32, w64}
use Rattle.giop_cdr.specs.Reading.Values.{number_at, signed_at, boolean_at, octets_at, string_at}
use Rattle.giop_cdr.specs.Spelling.{SpellsNumber, SpellsSigned, SpellsBoolean, SpellsString, SpellsOctets}
use Rattle.giop_cdr.specs.Spelling.{CountedItems, Bounded}
use Rattle.giop_cdr.specs.Reading.Exactness.{Took, IsExact, RefusedShort, RefusedBoolean, RefusedString, RefusedOctets}
use Rattle.giop_cdr.proofs.Spelling.FieldSpelling.{number_exact, signed_exact}
use Rattle.giop_cdr.proofs.Spelling.BooleanSpelling.{boolean_exact}
use Rattle.giop_cdr.proofs.Spelling.CountSpelling.{octets_exact}
use Rattle.giop_cdr.proofs.Spelling.TextSpelling.{string_exact}
use Rattle.giop_cdr.proofs.Spelling.Composing.{then_exact, nothing_exact}
use Rattle.giop_types.specs.Descriptions.Shape.{Shape, boolean, octet, char, short, ushort, long, ulong, longlong}
use Rattle.giop_types.specs.Descriptions.Shape.{ulonglong, text, octets, labels, members, choice, items, row, Fields}
use Rattle.giop_types.specs.Descriptions.Shape.{no_fields, field, Branches, no_branches, branch}
use Rattle.giop_types.specs.Values.Tree.{boolean_of, octet_of, char_of, short_of, ushort_of, long_of, ulong_of}
use Rattle.giop_types.specs.Values.Tree.{longlong_of, ulonglong_of, text_of, octets_of, label_of, members_of}
use Rattle.giop_types.specs.Values.Tree.{choice_of, items_of, row_of}
use Rattle.giop_types.specs.Values.Views.{trees_of}
use Rattle.giop_types.specs.Coding.Decoding.{as_read, ordinal_at, label_at, is_label, bounded_at, row_at, decode_at}
use Rattle.giop_types.specs.Coding.Decoding.{fields_at, branches_at}
use Rattle.giop_types.specs.Coding.Spells.{As, SpellsOrdinal, SpellsBounded, SpellsLabel, Spells, SpellsFields, SpellsBranches}
use Rattle.giop_types.specs.Coding.Refusals.{RefusedOrdinal, RefusedLabel, RefusedBounded, RefusedRow, RefusedShape}
use Rattle.giop_types.specs.Coding.Refusals.{RefusedFields, RefusedBranches}
use Rattle.giop_types.specs.Descriptions.Full.{is_discriminant, has_fields, is_full, are_full, all_full}
use Rattle.giop_types.proofs.Coding.AsExact.{as_exact, ordinal_exact, none_exact, chosen_exact}
use Rattle.giop_types.proofs.Coding.CountedExact.{bounded_exact, row_exact}
use Rattle.giop_types.proofs.Coding.Takes.{and_parts, shape_takes}

pub label_exact : (s : Shape) → IsExact (Took (SpellsLabel s)) (RefusedLabel s) (label_at s)
unfolding SpellsLabel RefusedLabel label_at
label_exact boolean = as_exact (λ b. if b then pos 1 else pos 0) SpellsBoolean RefusedBoolean boolean_at boolean_exact
label_exact char = as_exact pos (SpellsNumber w8) (RefusedShort 1) (number_at w8) (number_exact w8)
label_exact short = signed_exact w16
label_exact ushort = as_exact pos (SpellsNumber w16) (RefusedShort 2) (number_at w16) (number_exact w16)
label_exact long = signed_exact w32
label_exact ulong = as_exact pos (SpellsNumber w32) (RefusedShort 4) (number_at w32) (number_exact w32)
label_exact longlong = signed_exact w64
label_exact ulonglong = as_exact pos (SpellsNumber w64) (RefusedShort 8) (number_at w64) (number_exact w64)
label_exact (labels names) =
    as_exact pos (SpellsOrdinal (length names)) (RefusedOrdinal (length names)) (ordinal_at (length names)) (ordinal_exact (length names))
label_exact octet = none_exact
label_exact (text bound) = none_exact
label_exact (octets bound) = none_exact
label_exact (members fs) = none_exact
label_exact (choice disc bs other) = none_exact
label_exact (items t bound) = none_exact
label_exact (row t n) = none_exact

mutual
  unfolding Spells RefusedShape decode_at is_full

  pub shape_exact : (s : Shape) → is_full s ≡ true → IsExact (Took (Spells s)) (RefusedShape s) (decode_at s)
  shape_exact boolean h = as_exact boolean_of SpellsBoolean RefusedBoolean boolean_at boolean_exact
  shape_exact octet h = as_exact octet_of (SpellsNumber w8) (RefusedShort 1) (number_at w8) (number_exact w8)
  shape_exact char h = as_exact char_of (SpellsNumber w8) (RefusedShort 1) (number_at w8) (number_exact w8)
  shape_exact short h = as_exact short_of (SpellsSigned w16) (RefusedShort 2) (signed_at w16) (signed_exact w16)
  shape_exact ushort h = as_exact ushort_of (SpellsNumber w16) (RefusedShort 2) (number_at w16) (number_exact w16)
  shape_exact long h = as_exact long_of (SpellsSigned w32) (RefusedShort 4) (signed_at w32) (signed_exact w32)
  shape_exact ulong h = as_exact ulong_of (SpellsNumber w32) (RefusedShort 4) (number_at w32) (number_exact w32)
  shape_exact longlong h = as_exact longlong_of (SpellsSigned w64) (RefusedShort 8) (signed_at w64) (signed_exact w64)
  shape_exact ulonglong h = as_exact ulonglong_of (SpellsNumber w64) (RefusedShort 8) (number_at w64) (number_exact w64)
  shape_exact (text bound) h = as_exact text_of (Bounded bound SpellsString) (RefusedString bound) (string_at bound) (string_exact bound)
  shape_exact (octets bound) h = as_exact octets_of (Bounded bound SpellsOctets) (RefusedOctets bound) (octets_at bound) (octets_exact bound)
  shape_exact (labels names) h =
      as_exact label_of (SpellsOrdinal (length names)) (RefusedOrdinal (length names)) (ordinal_at (length names)) (ordinal_exact (length names))
  shape_exact (members fs) h = as_exact (λ ts. members_of (trees_of ts)) (SpellsFields fs) (RefusedFields fs) (fields_at fs)
      (fields_exact fs (and_parts (has_fields fs) (are_full fs) h).1)
  shape_exact (choice disc bs other) h =
      let parts = and_parts (is_discriminant disc) (all_full bs && are_full other) h in
      let full = and_parts (all_full bs) (are_full other) parts.1 in
      then_exact (SpellsLabel disc) (λ label. As (λ ts. choice_of label (trees_of ts)) (SpellsBranches bs (SpellsFields other) label))
      (RefusedLabel disc) (λ label. RefusedBranches bs (RefusedFields other) label) (label_at disc)
      (λ label d. as_read (λ ts. choice_of label (trees_of ts)) (branches_at bs (fields_at other) label d))
      (label_exact disc)
      (λ label. as_exact (λ ts. choice_of label (trees_of ts)) (SpellsBranches bs (SpellsFields other) label) (RefusedBranches bs (RefusedFields other) label)
      (branches_at bs (fields_at other) label)
      (branches_exact bs full.0 other (fields_exact other full.1) label))
  shape_exact (items s bound) h =
      as_exact (λ ts. items_of (trees_of ts)) (SpellsBounded bound (Spells s)) (RefusedBounded bound (Took (Spells s)) (RefusedShape s))
      (bounded_at (decode_at s) bound) (bounded_exact bound (Spells s) (RefusedShape s) (decode_at s) (shape_exact s h) (shape_takes s h))
  shape_exact (row s n) h =
      let parts = and_parts (nat_lt 0 n) (is_full s) h in
      as_exact (λ ts. row_of (trees_of ts)) (CountedItems (Spells s) n) (RefusedRow n (Took (Spells s)) (RefusedShape s))
      (row_at (decode_at s) n) (row_exact n (Spells s) (RefusedShape s) (decode_at s) (shape_exact s parts.1) (shape_takes s parts.1))

  pub fields_exact : (fs : Fields) → are_full fs ≡ true → IsExact (Took (SpellsFields fs)) (RefusedFields fs) (fields_at fs)
  fields_exact no_fields h = nothing_exact []
  fields_exact (field name s fs) h =
      let parts = and_parts (is_full s) (are_full fs) h in
      then_exact (Spells s) (λ t. As (λ ts. t ∷ ts) (SpellsFields fs)) (RefusedShape s) (λ t. RefusedFields fs) (decode_at s)
      (λ t d. as_read (λ ts. t ∷ ts) (fields_at fs d)) (shape_exact s parts.0)
      (λ t. as_exact (λ ts. t ∷ ts) (SpellsFields fs) (RefusedFields fs) (fields_at fs) (fields_exact fs parts.1))

  pub branches_exact : (bs : Branches) → all_full bs ≡ true → (other : Fields) → IsExact (Took (SpellsFields other)) (RefusedFields other) (fields_at other)
      → (label : ℤ) → IsExact (Took (SpellsBranches bs (SpellsFields other) label)) (RefusedBranches bs (RefusedFields other) label)
      (branches_at bs (fields_at other) label)
  branches_exact no_branches h other exact label = exact
  branches_exact (branch ls name s bs) h other exact label =
      let parts = and_parts (is_full s) (all_full bs) h in
      chosen_exact (is_label label ls) (As (λ t. t ∷ []) (Spells s)) (SpellsBranches bs (SpellsFields other) label)
      (RefusedShape s) (RefusedBranches bs (RefusedFields other) label)
      (λ c. as_read (λ t. t ∷ []) (decode_at s c)) (branches_at bs (fields_at other) label)
      (as_exact (λ t. t ∷ []) (Spells s) (RefusedShape s) (decode_at s) (shape_exact s parts.0))
      (branches_exact bs parts.1 other exact label)
