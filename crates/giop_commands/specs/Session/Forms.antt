-- Parts of the JSON of calls and answers (docs/FORMATS.md, "Calls and answers"). A part may be of
-- another form, or of the right one and then fit or not: it is `None`, `Some None`, or what fits.
-- Another form is reported before a part that doesn't fit.
use Rattle.std.specs.Prelude.{ℕ, List, [], ◌∷◌, Option, Some, None, option_map}
use Rattle.std.specs.Prelude.{option_and_then, Result, Ok, Err}
use Rattle.serde_json.specs.Data as json
use Rattle.serde_json.specs.Data.{Data, Items}
use Rattle.serde_json.specs.Find.{as_array}
use Rattle.giop_json.specs.declared.form_fault.FormFault.{FormFault}
use Rattle.giop_json.specs.declared.form_fault.FormFault.TheVariants.{BadShape}
use Rattle.giop_json.specs.declared.form_fault.FormFault.TheVariants.{Unfit}
use Rattle.giop_types.specs.declared.interfaces.parameters.Parameter.{Parameter}
use Rattle.giop_types.specs.Descriptions.CheckedShape.{checked_shape}
use Rattle.giop_types.specs.Descriptions.Shape.{Shape, text, ulong}
use Rattle.giop_json.specs.FromJson.{from_data}
use Rattle.giop_types.specs.Values.Tree.{Tree, text_of, ulong_of}

-- ---- parts

-- what two things make, where both are there
abbrev pub made_of : {A B C : Type 0} → (A → B → C) → Option A → Option B → Option C
made_of f (Some a) (Some b) = Some (f a b)
made_of f _ _ = None

-- what two parts make: of another form where one of them is, and unfit where one of them is
abbrev pub form_of : {A B C : Type 0} → (A → B → C) → Option (Option A) → Option (Option B)
    → Option (Option C)
form_of f a b = made_of (made_of f) a b

-- what a whole is, by its form
abbrev pub told : {A : Type 0} → Option (Option A) → Result A FormFault
told None = Err BadShape
told (Some None) = Err Unfit
told (Some (Some x)) = Ok x

-- ---- values

-- a value by what reading it gives
abbrev pub fitted : Result Tree FormFault → Option (Option Tree)
fitted (Ok t) = Some (Some t)
fitted (Err Unfit) = Some None
fitted (Err e) = None

-- the value of a description that a JSON value is
abbrev pub value_in : Shape → Data → Option (Option Tree)
value_in s d = fitted (from_data s d)

-- the octets of a text, and the number of an unsigned long
abbrev pub text_octets : Option Tree → Option (List ℕ)
text_octets (Some (text_of octets)) = Some octets
text_octets _ = None

abbrev pub ulong_number : Option Tree → Option ℕ
ulong_number (Some (ulong_of n)) = Some n
ulong_number _ = None

-- a text as a value of type string is one; any other is of another form
abbrev pub octets_in : Data → Option (List ℕ)
octets_in d = option_and_then text_octets (value_in (text 0) d)

-- an unsigned long; another whole number doesn't fit
abbrev pub number_in : Data → Option (Option ℕ)
number_in d = option_map ulong_number (value_in ulong d)

-- the values of parameters, one after the other: more or fewer than the parameters don't fit, and
-- those beyond them are of any form
abbrev pub each_value : List Parameter → Items → Option (Option (List Tree))
each_value [] json.no_items = Some (Some [])
each_value [] (json.item d ds) = Some None
each_value (p ∷ ps) json.no_items = Some None
each_value (p ∷ ps) (json.item d ds) =
    form_of (λ t ts. t ∷ ts) (value_in (checked_shape p.desc) d) (each_value ps ds)

-- a list of them
abbrev pub values_in : List Parameter → Data → Option (Option (List Tree))
values_in parameters d = option_and_then (each_value parameters) (as_array d)
