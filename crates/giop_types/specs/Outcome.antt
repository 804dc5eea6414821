-- What a call says that may find its value by a case, or leave it to the default.
use Rattle.std.specs.Prelude.{◌≡◌, Bool, true, false, List, Result, Ok, Err}
use Rattle.giop_cdr.specs.declared.fault.CdrFault.{CdrFault}
use Rattle.giop_cdr.specs.Cursor.{Cursor}
use Rattle.giop_cdr.specs.Reading.{Reading, past}
use Rattle.giop_types.specs.Tree.{Tree}

-- a case was passed over, or none is there and the reading is another one
abbrev pub SkipsCase : Result Bool CdrFault → Cursor → Cursor → Reading (List Tree) → Reading (List Tree) → Type 0
SkipsCase (Ok true) old new reading other = past reading ≡ Ok new
SkipsCase (Ok false) old new reading other = (reading ≡ other) × (new ≡ old)
SkipsCase (Err e) old new reading other = reading ≡ Err e
