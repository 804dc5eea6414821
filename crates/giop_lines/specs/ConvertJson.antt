-- The JSON lines of `convert`, without their newlines.
use Rattle.std.specs.Prelude.{ℕ, List, ◌++◌, codes, length}
use Rattle.std.specs.Fmt.{decimal}
use Rattle.giop_cdr.specs.declared.encode_fault.EncodeFault.{EncodeFault}
use Rattle.giop_cdr.specs.Faults.{encode_fault_number, encode_fault_name}
use Rattle.giop_ior.specs.declared.addresses.corbaloc_fault.CorbalocFault.{CorbalocFault}
use Rattle.giop_ior.specs.declared.references.tagged_profile.TaggedProfile.{TaggedProfile}
use Rattle.giop_ior.specs.CorbalocFault.{corbaloc_kind_number, corbaloc_kind_name}
use Rattle.giop_ior.specs.Iiop.{Profile}
use Rattle.giop_ior_text.specs.declared.ior_text_fault.IorTextFault.{IorTextFault}
use Rattle.giop_ior_text.specs.IorTextFault.{ior_text_fault_number, ior_text_fault_name}
use Rattle.giop_lines.specs.declared.refusal.RefusalLine.{RefusalLine}
use Rattle.giop_lines.specs.declared.refusal.RefusalLine.TheVariants.{IorText, Corbaloc, Reference, Form, BadHex, Octets, NoIiopProfile}
use Rattle.giop_lines.specs.ConvertLines.{version_text}
use Rattle.giop_lines.specs.JsonLines.{cdr_fault_json, fault_json, hex_json, key_json, refused_json, text_json}

-- ---- references

-- the type id of a reference, before the list of its profiles
unfoldable pub type_json : List ℕ → List ℕ
type_json type_id = codes "{\"type_id\":" ++ (text_json type_id ++ codes ",\"profiles\":[")

-- where an IIOP profile's object is called, as members
unfoldable pub address_json : Profile → List ℕ
address_json p =
    codes "\"version\":\"" ++ (version_text p.major p.minor ++ (codes "\",\"host\":" ++
    (text_json p.host ++ (codes ",\"port\":" ++ decimal p.port))))

-- a profile of tag 0 that is one, with the number of its components
unfoldable pub iiop_json : Profile → List ℕ
iiop_json p =
    codes "{\"tag\":0," ++ (address_json p ++ (codes "," ++ (key_json p.key ++
    (codes ",\"components\":" ++ (decimal (length p.components) ++ codes "}")))))

-- any other profile
unfoldable pub profile_json : TaggedProfile → List ℕ
profile_json p =
    codes "{\"tag\":" ++ (decimal p.tag ++ (codes ",\"octets\":" ++ (hex_json p.octets ++
    codes "}")))

-- the text of a reference, behind the list of its profiles
unfoldable pub ior_json : List ℕ → List ℕ
ior_json text = codes "],\"ior\":" ++ (text_json text ++ codes "}")

-- a corbaloc, and the text of its reference
unfoldable pub corbaloc_json : List ℕ → List ℕ → List ℕ
corbaloc_json corbaloc ior =
    codes "{\"corbaloc\":" ++ (text_json corbaloc ++ (codes ",\"ior\":" ++ (text_json ior ++
    codes "}")))

-- ---- refusals

-- a fault without a place, by its number and its name
abbrev pub named_json : ℕ → List ℕ → List ℕ
named_json number name =
    codes "{\"refused\":{\"number\":" ++ (decimal number ++ (codes ",\"name\":\"" ++ (name ++
    codes "\"}}")))

unfoldable pub ior_text_fault_json : IorTextFault → List ℕ
ior_text_fault_json e = named_json (ior_text_fault_number e) (ior_text_fault_name e)

unfoldable pub encode_fault_json : EncodeFault → List ℕ
encode_fault_json e = named_json (encode_fault_number e) (encode_fault_name e)

-- a fault of a corbaloc, with its place
unfoldable pub corbaloc_fault_json : CorbalocFault → List ℕ
corbaloc_fault_json e =
    codes "{\"refused\":" ++ (fault_json (corbaloc_kind_number e.kind) (corbaloc_kind_name e.kind)
    e.at ++ codes "}")

-- a refusal, with its place where it has one
abbrev pub refusal_json : RefusalLine → List ℕ
refusal_json (IorText e) = ior_text_fault_json e
refusal_json (Corbaloc e) = corbaloc_fault_json e
refusal_json (Reference e) = encode_fault_json e
refusal_json (Form e) = refused_json e
refusal_json BadHex = codes "{\"refused\":{\"number\":2,\"name\":\"BadHex\"}}"
refusal_json (Octets e) = codes "{\"refused\":" ++ (cdr_fault_json e ++ codes "}")
refusal_json NoIiopProfile = codes "{\"refused\":{\"name\":\"NoIiopProfile\"}}"
