-- Texts of JSON.
use Rattle.std.specs.Prelude.{◌≡◌, ◌⊎◌, Option, Some, None, Result, Ok, Err}
use Rattle.serde_json.specs.Data as json
use Rattle.serde_json.specs.View.{view}
use Rattle.serde_json.specs.declared.value.Value.{Value as Json}
use Rattle.giop_json.specs.declared.form_fault.FormFault.{FormFault}
use Rattle.giop_json.specs.declared.form_fault.FormFault.TheVariants.{BadJson, NoMemory}

-- the JSON value of a text was made, or the text is none, or it is out of memory
abbrev pub Parses : Result Json FormFault → Option json.Data → Type 0
Parses (Ok j) told = told ≡ Some (view j)
Parses (Err e) told = ((e ≡ BadJson) × (told ≡ None)) ⊎ (e ≡ NoMemory)
