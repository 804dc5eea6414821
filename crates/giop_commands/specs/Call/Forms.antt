-- Parts of the JSON of calls and answers (docs/FORMATS.md, "Calls and answers"), and the calls. A
-- part may be of another form, or of the right one and then fit or not: it is `None`, `Some None`,
-- or what fits. Another form is reported before a part that doesn't fit.
use Rattle.std.specs.Prelude.{ℕ, codes, List, [], ◌∷◌, Option, Some, None, option_map}
use Rattle.std.specs.Prelude.{option_and_then, Result, Ok, Err}
use Rattle.serde_json.specs.Data as json
use Rattle.serde_json.specs.Data.{Data, Items}
use Rattle.serde_json.specs.Find.{get, as_array}
use Rattle.giop_types.specs.declared.json.form_fault.FormFault.{FormFault}
use Rattle.giop_types.specs.declared.json.form_fault.FormFault.TheVariants.{BadJson, BadShape}
use Rattle.giop_types.specs.declared.json.form_fault.FormFault.TheVariants.{Unfit}
use Rattle.giop_types.specs.declared.json.interface.Interface.{Interface}
use Rattle.giop_types.specs.declared.json.interface.Operation.{Operation}
use Rattle.giop_types.specs.declared.json.parameters.Parameter.{Parameter}
use Rattle.giop_types.specs.Descriptions.CheckedShape.{checked_shape}
use Rattle.giop_types.specs.Descriptions.Shape.{Shape, text, ulong}
use Rattle.giop_types.specs.JsonForms.DescFromJson.{json_in}
use Rattle.giop_types.specs.JsonForms.FromJson.{from_data, in_object}
use Rattle.giop_types.specs.Values.Tree.{Tree, text_of, ulong_of}
use Rattle.giop_commands.specs.declared.call.calls.CallLine.{CallLine}
use Rattle.giop_msg.specs.Messages.Request.{operation_of}

-- ---- parts

-- what two things make, where both are there
abbrev pub made_of : {A B C : Type 0} → (A → B → C) → Option A → Option B → Option C
made_of f (Some a) (Some b) = Some (f a b)
made_of f _ _ = None

-- what two parts make: of another form where one of them is, and unfit where one of them is
abbrev pub form_of : {A B C : Type 0} → (A → B → C) → Option (Option A) → Option (Option B)
    → Option (Option C)
form_of f a b = made_of (made_of f) a b

-- what a whole is, by its form
abbrev pub told : {A : Type 0} → Option (Option A) → Result A FormFault
told None = Err BadShape
told (Some None) = Err Unfit
told (Some (Some x)) = Ok x

-- ---- values

-- a value by what reading it gives
abbrev pub fitted : Result Tree FormFault → Option (Option Tree)
fitted (Ok t) = Some (Some t)
fitted (Err Unfit) = Some None
fitted (Err e) = None

-- the value of a description that a JSON value is
abbrev pub value_in : Shape → Data → Option (Option Tree)
value_in s d = fitted (from_data s d)

-- the octets of a text, and the number of an unsigned long
abbrev pub text_octets : Option Tree → Option (List ℕ)
text_octets (Some (text_of octets)) = Some octets
text_octets _ = None

abbrev pub ulong_number : Option Tree → Option ℕ
ulong_number (Some (ulong_of n)) = Some n
ulong_number _ = None

-- a text as a value of type string is one; any other is of another form
abbrev pub octets_in : Data → Option (List ℕ)
octets_in d = option_and_then text_octets (value_in (text 0) d)

-- an unsigned long; another whole number doesn't fit
abbrev pub number_in : Data → Option (Option ℕ)
number_in d = option_map ulong_number (value_in ulong d)

-- the values of parameters, one after the other: more or fewer than the parameters don't fit, and
-- those beyond them are of any form
abbrev pub each_value : List Parameter → Items → Option (Option (List Tree))
each_value [] json.no_items = Some (Some [])
each_value [] (json.item d ds) = Some None
each_value (p ∷ ps) json.no_items = Some None
each_value (p ∷ ps) (json.item d ds) =
    form_of (λ t ts. t ∷ ts) (value_in (checked_shape p.desc) d) (each_value ps ds)

-- a list of them
abbrev pub values_in : List Parameter → Data → Option (Option (List Tree))
values_in parameters d = option_and_then (each_value parameters) (as_array d)

-- ---- calls

-- a call of an operation that the interface has, by its name, its id and its ins
abbrev pub call_of : List ℕ → Data → Data → Option Operation → Option (Option CallLine)
call_of name id ins None = None
call_of name id ins (Some o) =
    form_of (λ n values. record { id = n; operation = name; oneway = o.oneway; ins = values })
    (number_in id) (values_in o.ins.list.items ins)

-- a call of an operation, by the name as a JSON value
abbrev pub call_named : Interface → Data → Data → Data → Option (Option CallLine)
call_named interface id name ins = option_and_then
    (λ octets. call_of octets id ins (operation_of interface octets)) (octets_in name)

-- a call by its members
abbrev pub call_members : Interface → Data → Option (Option CallLine)
call_members interface d = option_and_then (λ id. option_and_then (λ name. option_and_then
    (λ ins. call_named interface id name ins)
    (get (codes "ins") d)) (get (codes "operation") d)) (get (codes "id") d)

-- a call, which has these members and no other
abbrev pub call_in : Interface → Data → Option (Option CallLine)
call_in interface d = in_object 3 (call_members interface) d

-- calls, one after the other
abbrev pub each_call : Interface → Items → Option (Option (List CallLine))
each_call interface json.no_items = Some (Some [])
each_call interface (json.item d ds) =
    form_of (λ call calls. call ∷ calls) (call_in interface d) (each_call interface ds)

-- a list of them
abbrev pub call_list : Interface → Data → Option (Option (List CallLine))
call_list interface d = option_and_then (each_call interface) (as_array d)

-- the calls that a JSON text lists
abbrev pub calls_told : Interface → Option Data → Result (List CallLine) FormFault
calls_told interface None = Err BadJson
calls_told interface (Some d) = told (call_list interface d)

abbrev pub calls_in : Interface → List ℕ → Result (List CallLine) FormFault
calls_in interface bytes = calls_told interface (json_in bytes)

-- ---- a call in a line

-- the call that a JSON text is
abbrev pub one_call_told : Interface → Option Data → Result CallLine FormFault
one_call_told interface None = Err BadJson
one_call_told interface (Some d) = told (call_in interface d)

abbrev pub one_call_in : Interface → List ℕ → Result CallLine FormFault
one_call_in interface bytes = one_call_told interface (json_in bytes)

-- ---- a call in words

-- the one call of an operation, by its name and its ins, under the id 1
abbrev pub call_in_words : Interface → List ℕ → Items → Result (List CallLine) FormFault
call_in_words interface name ins = told (option_map (option_map (λ call. call ∷ []))
    (call_named interface (json.number (json.unsigned 1)) (json.string name) (json.array ins)))
