-- The values of parameters as a list in JSON (docs/FORMATS.md), each by the description of its
-- parameter.
use Rattle.std.specs.Prelude.{ℕ, List, [], ◌∷◌, Option, Some, None, Result, Ok, Err}
use Rattle.serde_json.specs.Data.{Data, Items, no_items, item, array}
use Rattle.serde_json.specs.Find.{as_array}
use Rattle.serde_json.specs.View.{items_of}
use Rattle.serde_json.specs.Written.{compact_text}
use Rattle.giop_json.specs.declared.form_fault.FormFault.{FormFault}
use Rattle.giop_json.specs.declared.form_fault.FormFault.TheVariants.{BadJson, BadShape, Unfit}
use Rattle.giop_types.specs.declared.interfaces.parameters.Parameter.{Parameter}
use Rattle.giop_types.specs.Descriptions.CheckedShape.{checked_shape}
use Rattle.giop_json.specs.declared.number_form.NumberForm.TheVariants.{Plain}
use Rattle.giop_json.specs.DescFromJson.{json_in}
use Rattle.giop_json.specs.FromJson.{from_data}
use Rattle.giop_json.specs.ToJson.{to_data}
use Rattle.giop_types.specs.Values.Tree.{Tree}

-- ---- reading

-- a value and those behind it: another form is told before a value that doesn't fit, wherever it
-- stands
abbrev pub in_front : Result Tree FormFault → Result (List Tree) FormFault
    → Result (List Tree) FormFault
in_front (Ok tree) (Ok trees) = Ok (tree ∷ trees)
in_front (Ok tree) (Err e) = Err e
in_front (Err Unfit) (Ok trees) = Err Unfit
in_front (Err Unfit) (Err e) = Err e
in_front (Err e) rest = Err e

-- the values of parameters, one after the other: more or fewer than the parameters don't fit, and
-- those beyond them are of any form
abbrev pub each_told : List Parameter → Items → Result (List Tree) FormFault
each_told [] no_items = Ok []
each_told [] (item d ds) = Err Unfit
each_told (p ∷ ps) no_items = Err Unfit
each_told (p ∷ ps) (item d ds) = in_front (from_data (checked_shape p.desc) d) (each_told ps ds)

-- a list of them
abbrev pub list_told : List Parameter → Option Items → Result (List Tree) FormFault
list_told parameters None = Err BadShape
list_told parameters (Some ds) = each_told parameters ds

-- the values that a JSON value is
abbrev pub values_told : List Parameter → Option Data → Result (List Tree) FormFault
values_told parameters None = Err BadJson
values_told parameters (Some d) = list_told parameters (as_array d)

-- the values that a JSON text is
abbrev pub values_of_text : List Parameter → List ℕ → Result (List Tree) FormFault
values_of_text parameters text = values_told parameters (json_in text)

-- ---- writing

-- values, each by the description of its parameter
abbrev pub each_data : List Parameter → List Tree → List Data
each_data (p ∷ ps) (tree ∷ trees) = to_data Plain (checked_shape p.desc) tree ∷ each_data ps trees
each_data [] trees = []
each_data (p ∷ ps) [] = []

-- the text of a list of them, without blanks
abbrev pub text_of_values : List Parameter → List Tree → List ℕ
text_of_values parameters trees = compact_text (array (items_of (each_data parameters trees)))
