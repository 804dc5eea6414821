-- What a call says that reads an interface from a JSON text.
use Rattle.std.specs.Prelude.{◌≡◌, Option, None, Result, Ok, Err, IsSome}
use Rattle.std.specs.Bool.{⊤}
use Rattle.serde_json.specs.Data.{Data}
use Rattle.giop_types.specs.declared.json.form_fault.FormFault.{FormFault}
use Rattle.giop_types.specs.declared.json.form_fault.FormFault.TheVariants.{BadJson, BadShape, BadDesc, NoMemory}

-- a part has another form, or memory is wanting
abbrev pub IsOfForm : FormFault → Type 0
IsOfForm BadShape = ⊤
IsOfForm NoMemory = ⊤
IsOfForm _ = ⊥

-- the same, or a description describes no type of IDL
abbrev pub IsOfPart : FormFault → Type 0
IsOfPart (BadDesc fault) = ⊤
IsOfPart e = IsOfForm e

-- a refusal of a text: BadJson exactly where it is none, unless memory is wanting, and Unfit never
abbrev pub IsOfText : Option Data → FormFault → Type 0
IsOfText told BadJson = told ≡ None
IsOfText told NoMemory = ⊤
IsOfText told e = IsSome told × IsOfPart e

-- an interface was made of a text that is JSON, or a refusal was told
abbrev pub MakesOf : {A : Type 0} → Option Data → Result A FormFault → Type 0
MakesOf told (Ok x) = IsSome told
MakesOf told (Err e) = IsOfText told e
