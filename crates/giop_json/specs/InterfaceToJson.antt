-- The JSON value that an interface is written as: one of those that InterfaceFromJson reads as it.
use Rattle.std.specs.Prelude.{ℕ, ◌&&◌, ◌||◌, not, is_none, codes, Bool, true, List, [], ◌∷◌}
use Rattle.std.specs.List.{list_all, list_any}
use Rattle.serde_json.specs.Data as json
use Rattle.giop_cdr.specs.Reading.Values.{has_null}
use Rattle.giop_types.specs.Descriptions.Checked.{desc_fault, field_names, has_doubled, same_name}
use Rattle.giop_json.specs.DescToJson.{is_sayable, members_data, two_keys}
use Rattle.giop_json.specs.InterfaceFromJson.{Offer, Signature}
use Rattle.giop_json.specs.JsonText as utf8
use Rattle.giop_json.specs.Plain.{is_plain}
use Rattle.giop_types.specs.Values.Fits.{are_octets}
use Rattle.giop_types.specs.Values.Views.{Named, fields_of}

-- ---- what JSON can say

-- a name of octets, of a description without a fault that JSON can say
abbrev pub parameter_sayable : Named → Bool
parameter_sayable m = are_octets m.name
    && (is_none (desc_fault 1 m.shape) && (is_plain m.shape && is_sayable m.shape))

-- parameters of which no two have the same name, and no name has a null
abbrev pub parameters_sayable : List Named → Bool
parameters_sayable ms = list_all parameter_sayable ms
    && not (has_doubled same_name (field_names (fields_of ms)) || list_any (λ m. has_null m.name) ms)

-- outs that an operation may have: none where it is oneway
abbrev pub are_outs : Bool → List Named → Bool
are_outs oneway [] = true
are_outs oneway (m ∷ ms) = not oneway

abbrev pub signature_sayable : Signature → Bool
signature_sayable s =
    are_outs s.oneway s.outs && (parameters_sayable s.ins && parameters_sayable s.outs)

-- names or ids of octets without a null, each of something that can be said
abbrev pub table_sayable : {A : Type 0} → (A → Bool) → List (List ℕ × A) → Bool
table_sayable sayable es =
    list_all (λ e. (are_octets e.0 && not (has_null e.0)) && sayable e.1) es

abbrev pub offer_sayable : Offer → Bool
offer_sayable o =
    table_sayable signature_sayable o.operations && table_sayable parameters_sayable o.exceptions

-- ---- interfaces

abbrev pub parameters_data : List Named → json.Data
parameters_data ms = json.array (members_data (fields_of ms))

-- an operation, all of whose keys are said
abbrev pub signature_data : Signature → json.Data
signature_data s = json.object (json.put (codes "oneway") (json.boolean s.oneway)
    (two_keys (codes "ins") (parameters_data s.ins) (codes "outs") (parameters_data s.outs)))

-- what is named, as the members of an object in this order
abbrev pub entries_data : {A : Type 0} → (A → json.Data) → List (List ℕ × A) → json.Members
entries_data write [] = json.no_members
entries_data write (e ∷ es) =
    json.member (utf8.text_of e.0) (write e.1) (entries_data write es)

abbrev pub offer_data : Offer → json.Data
offer_data o = json.object (two_keys
    (codes "operations") (json.object (entries_data signature_data o.operations))
    (codes "exceptions") (json.object (entries_data parameters_data o.exceptions)))
