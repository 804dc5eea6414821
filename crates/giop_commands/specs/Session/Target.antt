-- Which object the text of a target says, and where it is reached (CORBA 3.3 Part 2, 7.6.9,
-- 7.6.10).
use Rattle.std.specs.Prelude.{ℕ, ◌==◌, ◌&&◌, nat_le, nat_eq, Bool, if◌then◌else◌, List, [], ◌∷◌, map, length, take, codes, Option, Some, None, Result, Ok, Err}
use Rattle.std.specs.Char.{to_ascii_lowercase}
use Rattle.std.specs.Cmp.Lexicographic.{pointwise}
use Rattle.std.specs.Option.{option_or}
use Rattle.std.specs.Result.{result_ok}
use Rattle.giop_ior.specs.declared.addresses.address.Address.{Address}
use Rattle.giop_ior.specs.declared.addresses.corbaloc.Corbaloc.{Corbaloc}
use Rattle.giop_ior.specs.declared.addresses.corbaloc_fault.CorbalocFault.{CorbalocFault}
use Rattle.giop_ior.specs.declared.references.tagged_profile.TaggedProfile.{TaggedProfile}
use Rattle.giop_ior.specs.CorbalocReading.{corbaloc_of}
use Rattle.giop_ior.specs.Iiop.{Profile, iiop_octets, iiop_of}
use Rattle.giop_ior.specs.Ior.{Reference, ior_layout}
use Rattle.giop_msg.specs.Version.{minor_of, version_of}
use Rattle.giop_ior_text.specs.declared.ior_text_fault.IorTextFault.{IorTextFault}
use Rattle.giop_ior_text.specs.IorText.{ior_text_of}
use Rattle.giop_commands.specs.declared.session.target.Endpoint.{Endpoint}
use Rattle.giop_commands.specs.declared.session.target.Targeted.{Targeted}
use Rattle.giop_commands.specs.declared.session.target.Targeted.TheVariants as targeted
use Rattle.giop_lines.specs.declared.refusal.RefusalLine.{RefusalLine}
use Rattle.giop_lines.specs.declared.refusal.RefusalLine.TheVariants.{Corbaloc as BadCorbaloc, NoIiopProfile}
use Rattle.giop_show.specs.Refusals.{ior_refusal}

-- octets in lower case
abbrev pub lower_case : List ℕ → List ℕ
lower_case octets = map to_ascii_lowercase octets

-- whether a text is that of a reference: it begins with `IOR:` in any case
abbrev pub is_reference : List ℕ → Bool
is_reference text =
    nat_le 4 (length text) && pointwise nat_eq (lower_case (take 4 text)) (codes "ior:")

-- ---- references

-- what a profile says, where it is one of IIOP and can be read
abbrev pub iiop_in : TaggedProfile → Option Profile
iiop_in p = if p.tag == 0 then result_ok (iiop_of p.octets) else None

-- the first of them that is
abbrev pub first_iiop : List TaggedProfile → Option Profile
first_iiop [] = None
first_iiop (p ∷ ps) = option_or (iiop_in p) (first_iiop ps)

-- where the object of a profile is reached
abbrev pub at_profile : Option Profile → Result Endpoint RefusalLine
at_profile (Some p) =
    Ok (record { host = p.host; port = p.port; version = version_of p.minor; key = p.key })
at_profile None = Err NoIiopProfile

-- where the object of a reference is reached by its first IIOP profile, if it has one
abbrev pub place_in : Reference → Option Endpoint
place_in ior = result_ok (at_profile (first_iiop ior.profiles))

-- the object of a reference that was read, or how its text is refused
abbrev pub by_reference : Result Reference IorTextFault → Result Endpoint RefusalLine
by_reference (Ok ior) = at_profile (first_iiop ior.profiles)
by_reference (Err e) = Err (ior_refusal e)

-- the profile of IIOP 1.2 of an object, without components
abbrev pub profile_at : List ℕ → ℕ → List ℕ → TaggedProfile
profile_at host port key = record {
  tag = 0;
  octets = iiop_octets (record {
    major = 1;
    minor = 2;
    host = host;
    port = port;
    key = key;
    components = [];
  });
}

-- the reference of an object of this type id, which has that profile alone
abbrev pub reference_at : List ℕ → List ℕ → ℕ → List ℕ → Reference
reference_at type_id host port key = record {
  type_id = type_id;
  profiles = profile_at host port key ∷ [];
}

-- ---- corbalocs

-- where the object of a key is reached by the first of some addresses
abbrev pub at_first : List Address → List ℕ → Result Endpoint RefusalLine
at_first [] key = Err NoIiopProfile
at_first (a ∷ more) key =
    Ok (record { host = a.host; port = a.port; version = version_of a.minor; key = key })

-- the corbaloc of an object, of one address
abbrev pub corbaloc_at : Endpoint → Corbaloc
corbaloc_at e = record {
  addresses = (record { major = 1; minor = minor_of e.version; host = e.host; port = e.port }) ∷ [];
  key = e.key;
}

-- the object of a corbaloc that was read, or how its text is refused
abbrev pub by_corbaloc : Result Corbaloc CorbalocFault → Result Endpoint RefusalLine
by_corbaloc (Ok c) = at_first c.addresses c.key
by_corbaloc (Err e) = Err (BadCorbaloc e)

-- the object of a text, or how the text is refused
abbrev pub target_of : List ℕ → Result Endpoint RefusalLine
target_of text =
    if is_reference text then by_reference (ior_text_of ior_layout.read text)
    else by_corbaloc (corbaloc_of text)

-- what a text says, as a value or a refusal
abbrev pub said : Targeted → Result Endpoint RefusalLine
said (targeted.At endpoint) = Ok endpoint
said (targeted.Refused line) = Err line
