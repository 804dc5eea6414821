-- Parts of the JSON of calls and answers (docs/FORMATS.md, "Calls and answers"). A part may be of
-- another form, or of the right one and then fit or not: it is `None`, `Some None`, or what fits.
use Rattle.std.specs.Prelude.{ℕ, List, Option, Some, None, option_map, option_and_then, Result, Ok, Err}
use Rattle.serde_json.specs.Data.{Data}
use Rattle.giop_types.specs.declared.json.form_fault.FormFault.{FormFault}
use Rattle.giop_types.specs.declared.json.form_fault.FormFault.TheVariants.{Unfit}
use Rattle.giop_types.specs.Descriptions.Shape.{Shape, text, ulong}
use Rattle.giop_types.specs.JsonForms.FromJson.{from_data}
use Rattle.giop_types.specs.Values.Tree.{Tree, text_of, ulong_of}

-- a value by what reading it gives
abbrev pub fitted : Result Tree FormFault → Option (Option Tree)
fitted (Ok t) = Some (Some t)
fitted (Err Unfit) = Some None
fitted (Err e) = None

-- the value of a description that a JSON value is
abbrev pub value_in : Shape → Data → Option (Option Tree)
value_in s d = fitted (from_data s d)

-- the octets of a text, and the number of an unsigned long
abbrev pub text_octets : Option Tree → Option (List ℕ)
text_octets (Some (text_of octets)) = Some octets
text_octets _ = None

abbrev pub ulong_number : Option Tree → Option ℕ
ulong_number (Some (ulong_of n)) = Some n
ulong_number _ = None

-- a text as a value of type string is one; any other is of another form
abbrev pub octets_in : Data → Option (List ℕ)
octets_in d = option_and_then text_octets (value_in (text 0) d)

-- an unsigned long; another whole number doesn't fit
abbrev pub number_in : Data → Option (Option ℕ)
number_in d = option_map ulong_number (value_in ulong d)
