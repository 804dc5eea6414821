-- The plain form of an interface file, and the interface's own id (docs/FORMATS.md).
use Rattle.std.specs.Prelude.{ℕ, codes, if◌then◌else◌, List, Option, Some, None}
use Rattle.std.specs.Prelude.{option_and_then, unwrap_or, Result, Ok, Err}
use Rattle.serde_json.specs.Data.{Data, null}
use Rattle.serde_json.specs.Find.{get, as_str}
use Rattle.giop_json.specs.declared.form_fault.FormFault.{FormFault}
use Rattle.giop_json.specs.declared.form_fault.FormFault.TheVariants.{BadJson, BadShape}
use Rattle.giop_where.specs.Shallow.{shallow}
use Rattle.giop_names.specs.Beside.{is_lawful}
use Rattle.giop_names.specs.Plain.{Made, plain_at}
use Rattle.giop_names.specs.declared.scope.Scope.TheVariants as is

-- how deep names and parts may be nested within one another
abbrev pub LEVELS : ℕ
LEVELS = 256

-- how many parts, keys, and octets of keys and texts may stand behind names
abbrev pub ROOM : ℕ
ROOM = 1000000

-- the types that a file names
abbrev pub types_of : Data → Data
types_of file = unwrap_or (get (codes "types") file) null

-- what was made, whatever room is left
abbrev pub made_of : Made Data → Result Data FormFault
made_of (Ok made) = Ok made.0
made_of (Err e) = Err e

-- the plain form of a file: what it says beside that is judged first
abbrev pub plain_of : Data → Result Data FormFault
plain_of file =
    if is_lawful file then made_of (plain_at LEVELS (types_of file) is.Interface file ROOM)
    else Err BadShape

-- a plain form that isn't nested deeper than JSON that is read
abbrev pub readable : Result Data FormFault → Result Data FormFault
readable (Ok plain) = if shallow 127 plain then Ok plain else Err BadShape
readable (Err e) = Err e

-- the plain form of what a text says
abbrev pub plain_told : Option Data → Result Data FormFault
plain_told None = Err BadJson
plain_told (Some file) = readable (plain_of file)

-- what the text of a plain form says
abbrev pub told : Result Data FormFault → Result (Option Data) FormFault
told (Ok plain) = Ok (Some plain)
told (Err e) = Err e

-- the id of the interface itself, where its file has one
abbrev pub id_of : Data → Result (Option (List ℕ)) FormFault
id_of file = if is_lawful file then Ok (option_and_then as_str (get (codes "id") file))
    else Err BadShape

abbrev pub id_told : Option Data → Result (Option (List ℕ)) FormFault
id_told None = Err BadJson
id_told (Some file) = id_of file
