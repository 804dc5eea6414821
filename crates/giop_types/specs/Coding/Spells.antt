-- Which octets spell which value of a shape, and which are refused (CORBA 3.3 Part 2, 9.3.2).
use Rattle.std.specs.Prelude.{ℕ, ℤ, pos, nat_lt, not, Bool, true, false, if◌then◌else◌, List, [], ◌∷◌, length}
use Rattle.std.specs.Int.{w8, w16, w32, w64}
use Rattle.giop_cdr.specs.Reading.Values.{passes}
use Rattle.giop_cdr.specs.Spelling.{Spelling, SpellsNumber, SpellsSigned, SpellsBoolean, SpellsString}
use Rattle.giop_cdr.specs.Spelling.{SpellsOctets, CountedItems, Then, Such, Known, Bounded}
use Rattle.giop_types.specs.Descriptions.Shape.{Shape, boolean, octet, char, short, ushort, long, ulong, longlong}
use Rattle.giop_types.specs.Descriptions.Shape.{ulonglong, text, octets, labels, members, choice, items, row, Fields}
use Rattle.giop_types.specs.Descriptions.Shape.{no_fields, field, Branches, no_branches, branch}
use Rattle.giop_types.specs.Values.Tree.{Tree, boolean_of, octet_of, char_of, short_of, ushort_of, long_of, ulong_of}
use Rattle.giop_types.specs.Values.Tree.{longlong_of, ulonglong_of, text_of, octets_of, label_of, members_of}
use Rattle.giop_types.specs.Values.Tree.{choice_of, items_of, row_of}
use Rattle.giop_types.specs.Values.Views.{trees_of}
use Rattle.giop_types.specs.Coding.Decoding.{is_label}

-- a value that is spelled as another is
abbrev pub As : {A B : Type 0} → (A → B) → Spelling A → Spelling B
As f P = Then P (λ v. Known (f v))

-- no octets spell anything
abbrev pub Nothing : {A : Type 0} → Spelling A
Nothing o at v b = ⊥

-- one spelling or another
abbrev pub Chosen : {A : Type 0} → Bool → Spelling A → Spelling A → Spelling A
Chosen true P Q = P
Chosen false P Q = Q

-- the ordinal of an enum of so many names
abbrev pub SpellsOrdinal : ℕ → Spelling ℕ
SpellsOrdinal n = Such (λ ordinal. nat_lt ordinal n) (SpellsNumber w32)

-- a sequence whose count is within its bound
abbrev pub SpellsBounded : ℕ → Spelling Tree → Spelling (List Tree)
SpellsBounded bound P = Then (Such (λ n. not (passes bound n)) (SpellsNumber w32)) (CountedItems P)

-- a discriminant
unfoldable pub SpellsLabel : Shape → Spelling ℤ
SpellsLabel boolean = As (λ b. if b then pos 1 else pos 0) SpellsBoolean
SpellsLabel char = As pos (SpellsNumber w8)
SpellsLabel short = SpellsSigned w16
SpellsLabel ushort = As pos (SpellsNumber w16)
SpellsLabel long = SpellsSigned w32
SpellsLabel ulong = As pos (SpellsNumber w32)
SpellsLabel longlong = SpellsSigned w64
SpellsLabel ulonglong = As pos (SpellsNumber w64)
SpellsLabel (labels names) = As pos (SpellsOrdinal (length names))
SpellsLabel _ = Nothing

-- the octets of a value, in an order and from an offset on: a boolean, an octet, a char and a
-- number as giop_cdr spells them (9.3.1); a string and octets within their bound (9.3.2.7,
-- 9.3.2.5); an enum by its ordinal (9.3.2.6); a struct member by member (9.3.2.2); a union by its
-- discriminant and the member that it selects (9.3.2.3); a sequence behind its count (9.3.2.5), an
-- array without one (9.3.2.4)
unfoldable mutual
  pub Spells : Shape → Spelling Tree
  Spells boolean = As boolean_of SpellsBoolean
  Spells octet = As octet_of (SpellsNumber w8)
  Spells char = As char_of (SpellsNumber w8)
  Spells short = As short_of (SpellsSigned w16)
  Spells ushort = As ushort_of (SpellsNumber w16)
  Spells long = As long_of (SpellsSigned w32)
  Spells ulong = As ulong_of (SpellsNumber w32)
  Spells longlong = As longlong_of (SpellsSigned w64)
  Spells ulonglong = As ulonglong_of (SpellsNumber w64)
  Spells (text bound) = As text_of (Bounded bound SpellsString)
  Spells (octets bound) = As octets_of (Bounded bound SpellsOctets)
  Spells (labels names) = As label_of (SpellsOrdinal (length names))
  Spells (members fs) = As (λ ts. members_of (trees_of ts)) (SpellsFields fs)
  Spells (choice disc bs other) =
      Then (SpellsLabel disc)
      (λ label. As (λ ts. choice_of label (trees_of ts))
      (SpellsBranches bs (SpellsFields other) label))
  Spells (items s bound) = As (λ ts. items_of (trees_of ts)) (SpellsBounded bound (Spells s))
  Spells (row s n) = As (λ ts. row_of (trees_of ts)) (CountedItems (Spells s) n)

  -- each member's value, one after the other
  pub SpellsFields : Fields → Spelling (List Tree)
  SpellsFields no_fields = Known []
  SpellsFields (field name s fs) = Then (Spells s) (λ t. As (λ ts. t ∷ ts) (SpellsFields fs))

  -- the member of the first case that has the label, or else what is there by default
  pub SpellsBranches : Branches → Spelling (List Tree) → ℤ → Spelling (List Tree)
  SpellsBranches no_branches other label = other
  SpellsBranches (branch ls name s bs) other label =
      Chosen (is_label label ls) (As (λ t. t ∷ []) (Spells s)) (SpellsBranches bs other label)
