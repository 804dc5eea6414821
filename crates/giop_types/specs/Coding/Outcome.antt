-- What a call says that may find its value by a case, or leave it to the default.
use Rattle.std.specs.Prelude.{◌≡◌, ◌⊎◌, ℤ, Bool, true, false, List, [], ◌∷◌, Option, Some, None, Result, Ok, Err, IsOk}
use Rattle.giop_cdr.specs.declared.fault.CdrKind.TheVariants.{NoMemory}
use Rattle.giop_types.specs.declared.value.Value.{Value}
use Rattle.giop_types.specs.Values.Views.{value_view, trees_of}
use Rattle.giop_cdr.specs.declared.fault.CdrFault.{CdrFault}
use Rattle.giop_cdr.specs.Reading.Cursor.{Cursor}
use Rattle.giop_cdr.specs.Reading.Values.{Reading, fault, past}
use Rattle.giop_types.specs.Values.Tree.{Tree, choice_of}

-- a case was passed over, or none is there and the reading is another one
abbrev pub SkipsCase : Result Bool CdrFault → Cursor → Cursor → Reading (List Tree)
    → Reading (List Tree) → Type 0
SkipsCase (Ok true) old new reading other = past reading ≡ Ok new
SkipsCase (Ok false) old new reading other = (reading ≡ other) × (new ≡ old)
SkipsCase (Err e) old new reading other = reading ≡ Err e

-- a case was read, or none is there and the reading is another one
abbrev pub FollowsCase : Result (Option Value) CdrFault → Cursor → Cursor → Reading (List Tree)
    → Reading (List Tree) → Type 0
FollowsCase (Ok (Some v)) old new reading other = reading ≡ Ok (value_view v ∷ [], new)
FollowsCase (Ok None) old new reading other = (reading ≡ other) × (new ≡ old)
FollowsCase (Err e) old new reading other = (reading ≡ Err e) ⊎ (e.kind ≡ NoMemory)

-- the value, where there is one
abbrev pub one_or_none : Option Value → List Tree
one_or_none (Some v) = value_view v ∷ []
one_or_none None = []

-- a union's value was made of its discriminant and its member, or it is out of memory
abbrev pub MakesChoice : ℤ → List Tree → Result Value CdrFault → Type 0
MakesChoice label ts (Ok v) = value_view v ≡ choice_of label (trees_of ts)
MakesChoice label ts (Err e) = e.kind ≡ NoMemory

-- a value was read, or refused so, or, where nothing is refused, reading is out of memory, which is
-- reported where the reader is; a refusal leaves the reader where it was
abbrev pub Decodes : Cursor → Result Value CdrFault → Cursor → Reading Tree → Type 0
Decodes old (Ok v) new reading = reading ≡ Ok (value_view v, new)
Decodes old (Err e) new reading =
    ((reading ≡ Err e) ⊎ ((e ≡ fault old.at NoMemory) × IsOk reading)) × (new ≡ old)

-- this value is returned and the reader is behind it, or reading is out of memory
abbrev pub IsDecoded : Result Value CdrFault → Cursor → Tree → Cursor → Type 0
IsDecoded (Ok v) new t after = (value_view v ≡ t) × (new ≡ after)
IsDecoded (Err e) new t after = e.kind ≡ NoMemory

-- what was written of a value is read as that value, or reading is out of memory
abbrev pub GivesBack : Tree → Result Value CdrFault → Type 0
GivesBack t (Ok v) = value_view v ≡ t
GivesBack t (Err e) = e.kind ≡ NoMemory
