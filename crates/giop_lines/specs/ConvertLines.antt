-- The lines that `convert` writes, without their newlines.
use Rattle.std.specs.Prelude.{ℕ, List, ◌++◌, codes, length}
use Rattle.std.specs.Fmt.{decimal}
use Rattle.giop_cdr.specs.Faults.{cdr_kind_number, cdr_kind_name, encode_fault_number, encode_fault_name}
use Rattle.giop_ior.specs.declared.references.tagged_profile.TaggedProfile.{TaggedProfile}
use Rattle.giop_ior.specs.CorbalocFault.{corbaloc_kind_number, corbaloc_kind_name}
use Rattle.giop_ior.specs.Iiop.{Profile}
use Rattle.giop_json.specs.FormFault.{form_fault_number, form_fault_name}
use Rattle.giop_ior_text.specs.IorTextFault.{ior_text_fault_number, ior_text_fault_name}
use Rattle.giop_lines.specs.declared.refusal.RefusalLine.{RefusalLine}
use Rattle.giop_lines.specs.declared.refusal.RefusalLine.TheVariants.{IorText, Corbaloc, Reference, Form, BadHex, Octets, NoIiopProfile}
use Rattle.giop_lines.specs.Octets.{hex_text, escaped_text}

-- fault NUMBER NAME
abbrev pub fault_text : ℕ → List ℕ → List ℕ
fault_text number name = codes "fault " ++ (decimal number ++ (codes " " ++ name))

-- a fault at its place: fault NUMBER NAME at PLACE
abbrev pub placed_text : ℕ → List ℕ → ℕ → List ℕ
placed_text number name at =
    codes "fault " ++ (decimal number ++ (codes " " ++ (name ++ (codes " at " ++ decimal at))))

-- a refusal, with its place where it has one
abbrev pub refusal_line : RefusalLine → List ℕ
refusal_line (IorText e) = fault_text (ior_text_fault_number e) (ior_text_fault_name e)
refusal_line (Corbaloc e) =
    placed_text (corbaloc_kind_number e.kind) (corbaloc_kind_name e.kind) e.at
refusal_line (Reference e) = fault_text (encode_fault_number e) (encode_fault_name e)
refusal_line (Form e) = fault_text (form_fault_number e) (form_fault_name e)
refusal_line BadHex = codes "fault 2 BadHex"
refusal_line (Octets e) = placed_text (cdr_kind_number e.kind) (cdr_kind_name e.kind) e.at
refusal_line NoIiopProfile = codes "no iiop profile"

-- the type id of a reference
abbrev pub type_line : List ℕ → List ℕ
type_line type_id = codes "type " ++ escaped_text type_id

-- a version of IIOP: MAJOR.MINOR
abbrev pub version_text : ℕ → ℕ → List ℕ
version_text major minor = decimal major ++ (codes "." ++ decimal minor)

-- a profile of tag 0 that is one:
--   iiop MAJOR.MINOR HOST PORT KEY components COMPONENTS
abbrev pub iiop_line : Profile → List ℕ
iiop_line p =
    codes "iiop " ++ (version_text p.major p.minor ++ (codes " " ++ (escaped_text p.host ++
    (codes " " ++ (decimal p.port ++ (codes " " ++ (hex_text p.key ++
    (codes " components " ++ decimal (length p.components)))))))))

-- any other profile: profile TAG OCTETS
abbrev pub profile_line : TaggedProfile → List ℕ
profile_line p = codes "profile " ++ (decimal p.tag ++ (codes " " ++ hex_text p.octets))
