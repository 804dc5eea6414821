-- Parts of the JSON lines.
use Rattle.std.specs.Prelude.{ℕ, Bool, ◌&&◌, ◌==◌, nat_le, List, [], ◌∷◌, ◌++◌, Option, Some, None, codes, if◌then◌else◌}
use Rattle.std.specs.Fmt.{decimal}
use Rattle.std.specs.List.{flat_map, list_all}
use Rattle.giop_cdr.specs.declared.fault.CdrFault.{CdrFault}
use Rattle.giop_cdr.specs.Faults.{cdr_kind_number, cdr_kind_name}
use Rattle.giop_msg.specs.declared.fault.WireFault.{WireFault}
use Rattle.giop_msg.specs.declared.messages.request_fault.RequestFault.{RequestFault}
use Rattle.giop_msg.specs.declared.messages.request_fault.RequestFault.TheVariants.{Header, Operation, Body}
use Rattle.giop_msg.specs.declared.target.Target.TheVariants.{Key, Profile, Reference}
use Rattle.giop_msg.specs.Fault.{wire_kind_number, wire_kind_name}
use Rattle.giop_msg.specs.Target.{AnyTarget}
use Rattle.giop_json.specs.declared.form_fault.FormFault.{FormFault}
use Rattle.giop_json.specs.FormFault.{form_fault_name, form_fault_number}
use Rattle.giop_lines.specs.Octets.{hex_text}

-- an octet is printable ASCII
abbrev pub is_printable_octet : ℕ → Bool
is_printable_octet octet = nat_le 0x20 octet && nat_le octet 0x7E

abbrev pub is_printable : List ℕ → Bool
is_printable octets = list_all is_printable_octet octets

-- an octet in a text of JSON: a printable one is itself, but " and \, behind which a \ stands; any
-- other one \u00 and two hexadecimal digits
abbrev pub octet_json : ℕ → List ℕ
octet_json octet =
    if octet == 0x22 then 0x5C ∷ 0x22 ∷ []
    else if octet == 0x5C then 0x5C ∷ 0x5C ∷ []
    else if is_printable_octet octet then octet ∷ []
    else 0x5C ∷ 0x75 ∷ 0x30 ∷ 0x30 ∷ hex_text (octet ∷ [])

-- octets between the quotes of a text of JSON, and with them
abbrev pub octets_json : List ℕ → List ℕ
octets_json octets = flat_map octet_json octets

abbrev pub text_json : List ℕ → List ℕ
text_json octets = 0x22 ∷ octets_json octets ++ 0x22 ∷ []

-- octets in hexadecimal, as a text of JSON
abbrev pub hex_json : List ℕ → List ℕ
hex_json [] = 0x22 ∷ 0x22 ∷ []
hex_json (octet ∷ octets) = 0x22 ∷ hex_text (octet ∷ octets) ++ 0x22 ∷ []

-- the id of a call, null where there is none
abbrev pub id_json : Option ℕ → List ℕ
id_json (Some id) = decimal id
id_json None = codes "null"

-- a fault, by its number, its name and its place
abbrev pub fault_json : ℕ → List ℕ → ℕ → List ℕ
fault_json number name at =
    codes "{\"number\":" ++ (decimal number ++ (codes ",\"name\":\"" ++ (name ++
    (codes "\",\"at\":" ++ (decimal at ++ codes "}")))))

-- a fault of octets, and one of a header
abbrev pub cdr_fault_json : CdrFault → List ℕ
cdr_fault_json e = fault_json (cdr_kind_number e.kind) (cdr_kind_name e.kind) e.at

abbrev pub wire_fault_json : WireFault → List ℕ
wire_fault_json e = fault_json (wire_kind_number e.kind) (wire_kind_name e.kind) e.at

-- the text of an object key, where it is printable
abbrev pub key_text_json : List ℕ → List ℕ
key_text_json key =
    if is_printable key then codes ",\"key_text\":" ++ text_json key else []

-- an object key, as members
unfoldable pub key_json : List ℕ → List ℕ
key_json key = codes "\"key\":" ++ (hex_json key ++ key_text_json key)

-- the target of a Request or a LocateRequest, as members
abbrev pub target_json : AnyTarget → List ℕ
target_json (Key key) = key_json key
target_json (Profile profile) = codes "\"profile_tag\":" ++ decimal profile.tag
target_json (Reference index ior) = codes "\"reference_index\":" ++ decimal index

-- why a Request or a LocateRequest can't be decoded, as members: which part, and its fault
abbrev pub request_fault_json : RequestFault → List ℕ
request_fault_json (Header e) = codes "\"part\":\"header\",\"fault\":" ++ cdr_fault_json e
request_fault_json Operation = codes "\"part\":\"operation\""
request_fault_json (Body e) = codes "\"part\":\"body\",\"fault\":" ++ cdr_fault_json e

-- why an interface is refused
abbrev pub refused_json : FormFault → List ℕ
refused_json e =
    codes "{\"refused\":{\"number\":" ++ (decimal (form_fault_number e) ++
    (codes ",\"name\":\"" ++ (form_fault_name e ++ codes "\"}}")))
