-- Which octets are refused where a value of a shape is read, and where: the first field in reading
-- order that isn't spelled, while all before it are (CORBA 3.3 Part 2, 9.3.2).
use Rattle.std.specs.Prelude.{◌≡◌, ◌≤◌, ◌<◌, ◌⊎◌, ℕ, ℤ, nat_lt, Bool, true, false, length}
use Rattle.giop_cdr.specs.declared.fault.CdrKind.TheVariants.{BadLabel, BadCount, BoundPassed}
use Rattle.giop_cdr.specs.Reading.Cursor.{place}
use Rattle.giop_cdr.specs.Reading.Values.{fault, passes}
use Rattle.giop_cdr.specs.Spelling.{SpellsNumber}
use Rattle.std.specs.Int.{w32}
use Rattle.giop_cdr.specs.Reading.Exactness.{Stretch, Refusal, Took, Counts, RefusedCount, FirstRefused, NeverRefused}
use Rattle.giop_cdr.specs.Reading.Exactness.{RefusedShort, RefusedBoolean, RefusedString, RefusedOctets, RefusedUnless}
use Rattle.giop_cdr.specs.Reading.Exactness.{RefusedAmong}
use Rattle.giop_types.specs.Descriptions.Shape.{Shape, boolean, octet, char, short, ushort, long, ulong, longlong}
use Rattle.giop_types.specs.Descriptions.Shape.{ulonglong, text, octets, labels, members, choice, items, row, Fields}
use Rattle.giop_types.specs.Descriptions.Shape.{no_fields, field, Branches, no_branches, branch}
use Rattle.giop_types.specs.Values.Tree.{Tree}
use Rattle.giop_types.specs.Coding.Decoding.{is_label}
use Rattle.giop_types.specs.Coding.Spells.{Spells, SpellsLabel}

-- no unsigned long is there, or the ordinal of no name
abbrev pub RefusedOrdinal : ℕ → Refusal
RefusedOrdinal n =
    RefusedUnless (λ ordinal. nat_lt ordinal n) 4 BadLabel (Took (SpellsNumber w32))
    (RefusedShort 4)

-- a discriminant isn't there, or is none
unfoldable pub RefusedLabel : Shape → Refusal
RefusedLabel boolean = RefusedBoolean
RefusedLabel char = RefusedShort 1
RefusedLabel short = RefusedShort 2
RefusedLabel ushort = RefusedShort 2
RefusedLabel long = RefusedShort 4
RefusedLabel ulong = RefusedShort 4
RefusedLabel longlong = RefusedShort 8
RefusedLabel ulonglong = RefusedShort 8
RefusedLabel (labels names) = RefusedOrdinal (length names)
RefusedLabel _ = λ c e. e ≡ fault c.at BadLabel

-- the count of a sequence is refused, or is above the bound, or the first of its values is refused
abbrev pub RefusedBounded : ℕ → Stretch Tree → Refusal → Refusal
RefusedBounded bound M R c e =
    FirstRefused Counts RefusedCount
    (λ n d f. ((passes bound n ≡ true) × (f ≡ fault (place 4 c) BoundPassed))
    ⊎ ((passes bound n ≡ false) × RefusedAmong M R n d f)) c e

-- an array of more values than octets remain, or the first of its values is refused
abbrev pub RefusedRow : ℕ → Stretch Tree → Refusal → Refusal
RefusedRow n M R c e =
    ((length c.rest < n) × (e ≡ fault c.at BadCount))
    ⊎ ((n ≤ length c.rest) × RefusedAmong M R n c e)

-- one refusal or another
abbrev pub RefusedBy : Bool → Refusal → Refusal → Refusal
RefusedBy true R S = R
RefusedBy false R S = S

-- where and why no value of a shape is read: too few octets for a number, what giop_cdr refuses of
-- a boolean, a string or octets, an ordinal of no name (9.3.2.6), a count above its bound or above
-- what is left (9.3.2.5), an array longer than what is left (9.3.2.4), or the first of the parts
-- that is refused
unfoldable mutual
  pub RefusedShape : Shape → Refusal
  RefusedShape boolean = RefusedBoolean
  RefusedShape octet = RefusedShort 1
  RefusedShape char = RefusedShort 1
  RefusedShape short = RefusedShort 2
  RefusedShape ushort = RefusedShort 2
  RefusedShape long = RefusedShort 4
  RefusedShape ulong = RefusedShort 4
  RefusedShape longlong = RefusedShort 8
  RefusedShape ulonglong = RefusedShort 8
  RefusedShape (text bound) = RefusedString bound
  RefusedShape (octets bound) = RefusedOctets bound
  RefusedShape (labels names) = RefusedOrdinal (length names)
  RefusedShape (members fs) = RefusedFields fs
  RefusedShape (choice disc bs other) =
      FirstRefused (Took (SpellsLabel disc)) (RefusedLabel disc)
      (λ label. RefusedBranches bs (RefusedFields other) label)
  RefusedShape (items s bound) = RefusedBounded bound (Took (Spells s)) (RefusedShape s)
  RefusedShape (row s n) = RefusedRow n (Took (Spells s)) (RefusedShape s)

  -- the first member that is refused, behind those that are read
  pub RefusedFields : Fields → Refusal
  RefusedFields no_fields = NeverRefused
  RefusedFields (field name s fs) =
      FirstRefused (Took (Spells s)) (RefusedShape s) (λ t. RefusedFields fs)

  -- the member of the first case that has the label is refused, or else what is there by default
  pub RefusedBranches : Branches → Refusal → ℤ → Refusal
  RefusedBranches no_branches other label = other
  RefusedBranches (branch ls name s bs) other label =
      RefusedBy (is_label label ls) (RefusedShape s) (RefusedBranches bs other label)
