-- What is written is read back (CORBA 3.3 Part 2, 9.3).
use Rattle.std.specs.Prelude.{◌≡◌, ℕ, ◌+◌, Bool, true, false, List, ◌++◌, length, Ok}
use Rattle.std.specs.Int.{Width, w8, w16, w32, w64}
use Rattle.giop_cdr.specs.Reading.Cursor.{Cursor}
use Rattle.giop_cdr.specs.Reading.Values.{Reading}
use Rattle.giop_cdr.specs.Spelling.{Spelling}
use Rattle.giop_cdr.specs.Writing.Output.{Output}

-- what was written of a value spells it from where the output stood; and a reader that stands there
-- reads the value and is left with what stands behind it
pub record IsReadBack {A : Type 0} (P : Spelling A) (read : Cursor → Reading A) (v : A)
    (out done : Output) : Type 0 where
  pub part : List ℕ
  pub octets : done.octets ≡ out.octets ++ part
  pub order : done.order ≡ out.order
  pub at : done.at ≡ out.at + length part
  pub spells : P out.order out.at v part
  pub back : (behind : List ℕ) →
      read (record { order = out.order; at = out.at; rest = part ++ behind })
      ≡ Ok (v, record { order = done.order; at = done.at; rest = behind })

-- what was written of a value spells it from where the output stood
pub record IsSpelled {A : Type 0} (P : Spelling A) (v : A) (out done : Output) : Type 0 where
  pub part : List ℕ
  pub octets : done.octets ≡ out.octets ++ part
  pub order : done.order ≡ out.order
  pub at : done.at ≡ out.at + length part
  pub spells : P out.order out.at v part

-- the widths of CDR's numbers: 1, 2, 4 and 8 octets
abbrev pub is_primitive : Width → Bool
is_primitive w8 = true
is_primitive w16 = true
is_primitive w32 = true
is_primitive w64 = true
is_primitive _ = false
