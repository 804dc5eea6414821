-- The JSON of calls (docs/FORMATS.md, "Calls and answers"): in a list, in a line and in words.
use Rattle.std.specs.Prelude.{ℕ, codes, List, [], ◌∷◌, Option, Some, None, option_map}
use Rattle.std.specs.Prelude.{option_and_then, Result, Err}
use Rattle.serde_json.specs.Data as json
use Rattle.serde_json.specs.Data.{Data, Items}
use Rattle.serde_json.specs.Find.{get, as_array}
use Rattle.giop_json.specs.declared.form_fault.FormFault.{FormFault}
use Rattle.giop_json.specs.declared.form_fault.FormFault.TheVariants.{BadJson}
use Rattle.giop_types.specs.declared.interfaces.interface.Interface.{Interface}
use Rattle.giop_types.specs.declared.interfaces.interface.Operation.{Operation}
use Rattle.giop_json.specs.DescFromJson.{json_in}
use Rattle.giop_json.specs.FromJson.{in_object}
use Rattle.giop_asked_calls.specs.declared.calls.CallLine.{CallLine}
use Rattle.giop_msg.specs.Messages.Request.{operation_of}
use Rattle.giop_commands.specs.Session.Forms.{form_of, number_in, octets_in, told, values_in}

-- a call of an operation that the interface has, by its name, its id and its ins
abbrev pub call_of : List ℕ → Data → Data → Option Operation → Option (Option CallLine)
call_of name id ins None = None
call_of name id ins (Some o) =
    form_of (λ n values. record { id = n; operation = name; oneway = o.oneway; ins = values })
    (number_in id) (values_in o.ins.list.items ins)

-- a call of an operation, by the name as a JSON value
abbrev pub call_named : Interface → Data → Data → Data → Option (Option CallLine)
call_named interface id name ins = option_and_then
    (λ octets. call_of octets id ins (operation_of interface octets)) (octets_in name)

-- a call by its members
abbrev pub call_members : Interface → Data → Option (Option CallLine)
call_members interface d = option_and_then (λ id. option_and_then (λ name. option_and_then
    (λ ins. call_named interface id name ins)
    (get (codes "ins") d)) (get (codes "operation") d)) (get (codes "id") d)

-- a call, which has these members and no other
abbrev pub call_in : Interface → Data → Option (Option CallLine)
call_in interface d = in_object 3 (call_members interface) d

-- calls, one after the other
abbrev pub each_call : Interface → Items → Option (Option (List CallLine))
each_call interface json.no_items = Some (Some [])
each_call interface (json.item d ds) =
    form_of (λ call calls. call ∷ calls) (call_in interface d) (each_call interface ds)

-- a list of them
abbrev pub call_list : Interface → Data → Option (Option (List CallLine))
call_list interface d = option_and_then (each_call interface) (as_array d)

-- the calls that a JSON text lists
abbrev pub calls_told : Interface → Option Data → Result (List CallLine) FormFault
calls_told interface None = Err BadJson
calls_told interface (Some d) = told (call_list interface d)

abbrev pub calls_in : Interface → List ℕ → Result (List CallLine) FormFault
calls_in interface bytes = calls_told interface (json_in bytes)

-- ---- a call in a line

-- the call that a JSON text is
abbrev pub one_call_told : Interface → Option Data → Result CallLine FormFault
one_call_told interface None = Err BadJson
one_call_told interface (Some d) = told (call_in interface d)

abbrev pub one_call_in : Interface → List ℕ → Result CallLine FormFault
one_call_in interface bytes = one_call_told interface (json_in bytes)

-- ---- a call in words

-- the one call of an operation, by its name and its ins, under the id 1
abbrev pub call_in_words : Interface → List ℕ → Items → Result (List CallLine) FormFault
call_in_words interface name ins = told (option_map (option_map (λ call. call ∷ []))
    (call_named interface (json.number (json.unsigned 1)) (json.string name) (json.array ins)))
