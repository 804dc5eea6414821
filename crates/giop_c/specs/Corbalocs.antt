-- What of a reference a corbaloc (7.6.10.1) can say: at which addresses its object is reached over
-- IIOP, and by which key. The type id, the components and other profiles are passed over.
use Rattle.std.specs.Prelude.{◌≡◌, ◌⊎◌, ℕ, ◌==◌, nat_eq, Bool, if◌then◌else◌, List, [], ◌∷◌, map, Option, Some, None}
use Rattle.std.specs.Cmp.Lexicographic.{pointwise}
use Rattle.std.specs.List.{filter_map, list_all}
use Rattle.std.specs.Option.{option_map}
use Rattle.std.specs.Result.{result_ok}
use Rattle.giop_ior.specs.declared.addresses.address.Address.{Address}
use Rattle.giop_ior.specs.declared.addresses.corbaloc.Corbaloc.{Corbaloc}
use Rattle.giop_ior.specs.declared.references.tagged_profile.TaggedProfile.{TaggedProfile}
use Rattle.giop_ior.specs.CorbalocWriting.{corbaloc_text, is_writable}
use Rattle.giop_ior.specs.Iiop.{Profile, iiop_of}
use Rattle.giop_ior.specs.Ior.{Reference}
use Rattle.giop_c.specs.declared.end_records.EndFault.{EndFault}
use Rattle.giop_c.specs.Calls.{no_memory}
use Rattle.giop_c.specs.Copying.{CopiesOctets}
use Rattle.giop_c.specs.References.{OfReference}

-- what a profile says, where it is one of IIOP and can be read
abbrev pub iiop_in : TaggedProfile → Option Profile
iiop_in p = if p.tag == 0 then result_ok (iiop_of p.octets) else None

-- where it is reached
abbrev pub address_of : Profile → Address
address_of p = record { major = p.major; minor = p.minor; host = p.host; port = p.port }

-- whether a profile has this key
abbrev pub has_key : List ℕ → Profile → Bool
has_key key p = pointwise nat_eq p.key key

-- the corbaloc, where a text can say it
abbrev pub written : Corbaloc → Option Corbaloc
written c = if is_writable c then Some c else None

-- the addresses of profiles that have one key
abbrev pub said_by : List Profile → Option Corbaloc
said_by [] = None
said_by (p ∷ more) =
    if list_all (has_key p.key) more
    then written (record { addresses = map address_of (p ∷ more); key = p.key })
    else None

-- the corbaloc that says where the object of a reference is
abbrev pub corbaloc_in : Reference → Option Corbaloc
corbaloc_in ior = said_by (filter_map iiop_in ior.profiles)

-- the text of a corbaloc is copied, where there is one; or memory ran out
abbrev pub CopiesCorbaloc : Option Corbaloc → List ℕ → List ℕ → ℕ → ℕ → ℕ → Type 0
CopiesCorbaloc c buffer buffer' size size' status =
    CopiesOctets (option_map corbaloc_text c) buffer buffer' size size' status
    ⊎ ((status ≡ no_memory) × (buffer' ≡ buffer) × (size' ≡ size))

-- the same of the reference that a text is
abbrev pub ReadsAsCorbaloc : List ℕ → List ℕ → List ℕ → ℕ → ℕ → EndFault → EndFault → ℕ → Type 0
ReadsAsCorbaloc octets buffer buffer' size size' f f' status =
    OfReference octets f f' status ((buffer' ≡ buffer) × (size' ≡ size))
    (λ ior. CopiesCorbaloc (corbaloc_in ior) buffer buffer' size size' status)
