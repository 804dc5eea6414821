-- The interface that a JSON text is: its operations by their names, and its exceptions by their
-- ids, of which every description is checked.
use Rattle.std.specs.Prelude.{ℕ, ◌+◌, codes, Bool, true, false, ◌||◌, if◌then◌else◌}
use Rattle.std.specs.Prelude.{List, [], ◌∷◌, map, Option, Some, None, option_map, option_and_then, is_some, Result, Ok, Err, Vec}
use Rattle.std.specs.BTreeMap.{BTreeMap, insert_entry}
use Rattle.std.specs.declared.alloc.Global.{Global}
use Rattle.std.specs.Cmp.Lexicographic.{slice_cmp}
use Rattle.std.specs.List.{list_any}
use Rattle.std.specs.Option.{option_or}
use Rattle.std.specs.Ordering.{nat_cmp}
use Rattle.serde_json.specs.Data as json
use Rattle.serde_json.specs.Find.{get, as_bool, as_object}
use Rattle.giop_cdr.specs.Reading.Values.{has_null}
use Rattle.giop_types.specs.declared.description.desc_fault.DescFault.{DescFault}
use Rattle.giop_json.specs.declared.form_fault.FormFault.{FormFault}
use Rattle.giop_json.specs.declared.form_fault.FormFault.TheVariants.{BadJson, BadShape}
use Rattle.giop_types.specs.declared.interfaces.interface.Interface.{Interface}
use Rattle.giop_types.specs.declared.interfaces.interface.Operation.{Operation}
use Rattle.giop_types.specs.declared.interfaces.parameters.Parameter.{Parameter}
use Rattle.giop_types.specs.declared.interfaces.parameters.Parameters.{Parameters}
use Rattle.giop_types.specs.Descriptions.Checked.{desc_fault, has_doubled, same_name, field_names}
use Rattle.giop_types.specs.Descriptions.CheckedShape.{checked_shape}
use Rattle.giop_types.specs.Values.Views.{Named, fields_of}
use Rattle.giop_json.specs.FromJson.{in_object}
use Rattle.giop_json.specs.DescFromJson.{by_key, list_in, member_in, desc_in, judged}
use Rattle.giop_json.specs.JsonText as utf8

-- ---- what contracts see of an interface

-- an operation: whether no reply is sent, its ins and its outs, each a name and a description
pub record Signature : Type 0 where
  pub oneway : Bool
  pub ins : List Named
  pub outs : List Named

-- an interface: its operations in the order of their names, its exceptions in that of their ids
pub record Offer : Type 0 where
  pub operations : List (List ℕ × Signature)
  pub exceptions : List (List ℕ × List Named)

-- a parameter
abbrev pub parameter_view : Parameter → Named
parameter_view p = record { name = p.name; shape = checked_shape p.desc }

-- parameters in their order
abbrev pub parameters_view : Parameters → List Named
parameters_view ps = map parameter_view ps.list.items

-- an operation
abbrev pub operation_view : Operation → Signature
operation_view o =
    record { oneway = o.oneway; ins = parameters_view o.ins; outs = parameters_view o.outs }

-- operations by their names
abbrev pub operations_view : BTreeMap (Vec ℕ Global) Operation → List (List ℕ × Signature)
operations_view m = map (λ e. (e.0.items, operation_view e.1)) m.entries

-- exceptions by their ids
abbrev pub exceptions_view : BTreeMap (Vec ℕ Global) Parameters → List (List ℕ × List Named)
exceptions_view m = map (λ e. (e.0.items, parameters_view e.1)) m.entries

-- an interface
abbrev pub interface_view : Interface → Offer
interface_view i = record {
  operations = operations_view i.general.operations;
  exceptions = exceptions_view i.general.exceptions;
}

-- ---- the form of a text

-- octets without a null
abbrev pub without_null : List ℕ → Option (List ℕ)
without_null octets = if has_null octets then None else Some octets

-- the octets of a name or an id, in which no null stands
abbrev pub name_in : List ℕ → Option (List ℕ)
name_in s = option_and_then without_null (utf8.octets_in s)

-- parameters of which no two have the same name, and no name has a null
abbrev pub lawful_parameters : List Named → Option (List Named)
lawful_parameters ms =
    if has_doubled same_name (field_names (fields_of ms)) || list_any (λ m. has_null m.name) ms
    then None else Some ms

-- parameters: a list of names with their descriptions
abbrev pub parameters_in : json.Data → Option (List Named)
parameters_in d = option_and_then lawful_parameters (list_in (member_in (desc_in 128)) d)

-- parameters that stand under a key; there are none where it isn't there
abbrev pub parameters_told : Option json.Data → Option (List Named)
parameters_told told = by_key told parameters_in (Some [])

-- whether an operation is oneway, which it isn't where nothing is said
abbrev pub oneway_told : Option json.Data → Option Bool
oneway_told told = by_key told as_bool (Some false)

-- one, where a key is there
abbrev pub one_if : Option json.Data → ℕ
one_if told = if is_some told then 1 else 0

-- how many of the keys of an operation are there
abbrev pub known_keys : json.Data → ℕ
known_keys d = one_if (get (codes "ins") d) + one_if (get (codes "outs") d)
    + one_if (get (codes "oneway") d)

-- an operation, which has no outs where it is oneway
abbrev pub signature_of : List Named → List Named → Bool → Option Signature
signature_of ins [] oneway = Some (record { oneway = oneway; ins = ins; outs = [] })
signature_of ins (m ∷ ms) true = None
signature_of ins (m ∷ ms) false =
    Some (record { oneway = false; ins = ins; outs = m ∷ ms })

-- the parts of an operation
abbrev pub signature_parts : json.Data → Option Signature
signature_parts d = option_and_then (λ ins. option_and_then (λ outs.
    option_and_then (signature_of ins outs) (oneway_told (get (codes "oneway") d)))
    (parameters_told (get (codes "outs") d))) (parameters_told (get (codes "ins") d))

-- an operation, in an object that has no other key
abbrev pub signature_in : json.Data → Option Signature
signature_in d = in_object (known_keys d) signature_parts d

-- what a member of an object names
abbrev pub entry_in : {A : Type 0} → (json.Data → Option A) → List ℕ → json.Data
    → Option (List ℕ × A)
entry_in inner key d = option_and_then (λ name. option_map (λ x. (name, x)) (inner d)) (name_in key)

-- what the members of an object name, where each names something
abbrev pub entries_in : {A : Type 0} → (json.Data → Option A) → json.Members
    → Option (List (List ℕ × A))
entries_in inner json.no_members = Some []
entries_in inner (json.member key d ms) =
    option_and_then (λ e. option_map (λ es. e ∷ es) (entries_in inner ms)) (entry_in inner key d)

-- what the members of an object name
abbrev pub table_in : {A : Type 0} → (json.Data → Option A) → json.Data
    → Option (List (List ℕ × A))
table_in inner d = option_and_then (entries_in inner) (as_object d)

-- the operations of an interface
abbrev pub operations_in : json.Data → Option (List (List ℕ × Signature))
operations_in d = option_and_then (table_in signature_in) (get (codes "operations") d)

-- the exceptions beside the operations, where they are there, and no other key
abbrev pub exceptions_beside : json.Data → Option (List (List ℕ × List Named))
exceptions_beside d = by_key (get (codes "exceptions") d)
    (λ es. in_object 2 (λ x. table_in parameters_in es) d) (in_object 1 (λ x. Some []) d)

-- an interface, whatever its descriptions
abbrev pub offer_in : json.Data → Option Offer
offer_in d = option_and_then
    (λ os. option_map (λ es. record { operations = os; exceptions = es }) (exceptions_beside d))
    (operations_in d)

-- ---- what is wrong with a description

-- what is wrong with the first item with which something is
abbrev pub first_fault : {A : Type 0} → (A → Option DescFault) → List A → Option DescFault
first_fault fault [] = None
first_fault fault (x ∷ xs) = option_or (fault x) (first_fault fault xs)

-- what is wrong with the first description of parameters with which something is
abbrev pub parameters_fault : List Named → Option DescFault
parameters_fault ms = first_fault (λ m. desc_fault 1 m.shape) ms

-- what is wrong with the first description of an operation: its ins are judged before its outs
abbrev pub signature_fault : Signature → Option DescFault
signature_fault s = option_or (parameters_fault s.ins) (parameters_fault s.outs)

-- ---- the interface

-- what is named, in the order of the names: where one stands twice, the later holds
abbrev pub by_name : {A : Type 0} → List (List ℕ × A) → List (List ℕ × A) → List (List ℕ × A)
by_name before [] = before
by_name before (e ∷ es) = by_name (insert_entry (slice_cmp nat_cmp) before e.0 e.1) es

-- a table that is judged
abbrev pub judged_table : {A : Type 0} → (A → Option DescFault) → List (List ℕ × A)
    → Result (List (List ℕ × A)) FormFault
judged_table fault es = judged (by_name [] es) (first_fault (λ e. fault e.1) es)

-- operations and the exceptions beside them
abbrev pub with_operations : List (List ℕ × Signature)
    → Result (List (List ℕ × List Named)) FormFault → Result Offer FormFault
with_operations os (Ok es) = Ok (record { operations = os; exceptions = es })
with_operations os (Err e) = Err e

-- exceptions, which are judged once the operations are
abbrev pub behind_operations : Result (List (List ℕ × Signature)) FormFault
    → List (List ℕ × List Named) → Result Offer FormFault
behind_operations (Ok os) es = with_operations os (judged_table parameters_fault es)
behind_operations (Err e) es = Err e

-- the interface of a form: its operations are judged before its exceptions
abbrev pub judged_offer : Offer → Result Offer FormFault
judged_offer o =
    behind_operations (judged_table signature_fault o.operations) o.exceptions

-- the interface that a JSON value is: another form is reported before what is wrong with a
-- description
abbrev pub offered : Option Offer → Result Offer FormFault
offered None = Err BadShape
offered (Some o) = judged_offer o

-- the interface that a JSON text is
abbrev pub interface_told : Option json.Data → Result Offer FormFault
interface_told None = Err BadJson
interface_told (Some d) = offered (offer_in d)
