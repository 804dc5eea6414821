-- References, corbalocs and IIOP profiles, as C sees them, and what the calls write that read them.
use Rattle.std.specs.Prelude.{◌≡◌, ◌⊎◌, ℕ, List, Option, Some, None, Result, Ok, Err, IsOk, length, slice_get, true, false}
use Rattle.giop_cdr.specs.declared.fault.CdrFault.{CdrFault}
use Rattle.giop_ior_text.specs.declared.ior_text_fault.IorTextFault.{IorTextFault}
use Rattle.giop_ior_text.specs.declared.ior_text_fault.IorTextFault.TheVariants as text
use Rattle.giop_ior_text.specs.IorText.{ior_text_of}
use Rattle.giop_ior.specs.declared.addresses.address.Address.{Address}
use Rattle.giop_ior.specs.declared.addresses.corbaloc.Corbaloc.{Corbaloc}
use Rattle.giop_ior.specs.declared.addresses.corbaloc_fault.CorbalocFault.{CorbalocFault}
use Rattle.giop_ior.specs.declared.addresses.corbaloc_fault.CorbalocKind.{CorbalocKind}
use Rattle.giop_ior.specs.declared.addresses.corbaloc_fault.CorbalocKind.TheVariants as corbaloc
use Rattle.giop_ior.specs.declared.references.tagged_profile.TaggedProfile.{TaggedProfile}
use Rattle.giop_ior.specs.CorbalocFault as faults
use Rattle.giop_ior.specs.CorbalocReading.{corbaloc_of}
use Rattle.giop_ior.specs.Iiop as iiop
use Rattle.giop_ior.specs.Ior.{Reference, ior_layout}
use Rattle.giop_ior.specs.ToIor.{are_profiles, ior_of}
use Rattle.giop_c.specs.declared.act_fault.ActFault.TheVariants as refused
use Rattle.giop_c.specs.declared.end_records.EndFault.{EndFault}
use Rattle.giop_c.specs.declared.records.Fault.{Fault}
use Rattle.giop_c.specs.declared.records.Profile.{Profile}
use Rattle.giop_c.specs.Acts.{IsToldAct}
use Rattle.giop_c.specs.Calls.{no_memory, fault}
use Rattle.giop_c.specs.Client.Entries.{CopiesReference}
use Rattle.giop_c.specs.Copying.{CopiesOctets}
use Rattle.giop_c.specs.Heads.{Copied, c_cdr_fault}

-- ---- a reference's text (7.6.9): its profiles, one by one

-- a profile's tag is told and its octets are copied; or there is none
abbrev pub CopiesProfile : Option TaggedProfile → ℕ → ℕ → List ℕ → List ℕ → ℕ → ℕ → ℕ → Type 0
CopiesProfile None tag tag' buffer buffer' size size' status =
    (tag' ≡ tag) × CopiesOctets None buffer buffer' size size' status
CopiesProfile (Some profile) tag tag' buffer buffer' size size' status =
    (tag' ≡ profile.tag) × CopiesOctets (Some profile.octets) buffer buffer' size size' status

-- the text is no reference, or memory ran out, and C is told so and nothing else is written; or this
-- is done with the reference that it is
abbrev pub OfReference : List ℕ → EndFault → EndFault → ℕ → Type 0 → (Reference → Type 0) → Type 0
OfReference octets f f' status kept does =
    ((e : IorTextFault) × ((ior_text_of ior_layout.read octets ≡ Err e) ⊎ (e ≡ text.NoMemory))
    × IsToldAct (Err (refused.Reference e)) f f' status × kept)
    ⊎ ((ior : Reference) × (ior_text_of ior_layout.read octets ≡ Ok ior) × (f' ≡ f) × does ior)

-- the profile at this index of the reference that a text is is copied
abbrev pub ReadsProfile : List ℕ → ℕ → ℕ → ℕ → List ℕ → List ℕ → ℕ → ℕ → EndFault → EndFault → ℕ
    → Type 0
ReadsProfile octets index tag tag' buffer buffer' size size' f f' status =
    OfReference octets f f' status ((tag' ≡ tag) × (buffer' ≡ buffer) × (size' ≡ size))
    (λ ior. CopiesProfile (slice_get ior.profiles index) tag tag' buffer buffer' size size' status)

-- the type id of the reference that a text is is copied
abbrev pub ReadsTypeId : List ℕ → List ℕ → List ℕ → ℕ → ℕ → EndFault → EndFault → ℕ → Type 0
ReadsTypeId octets buffer buffer' size size' f f' status =
    OfReference octets f f' status ((buffer' ≡ buffer) × (size' ≡ size))
    (λ ior. CopiesOctets (Some ior.type_id) buffer buffer' size size' status)

-- ---- the octets of an IIOP profile (9.7.2)

-- a profile, but for the octets of its host and its key
abbrev pub c_profile : iiop.Profile → Profile
c_profile p = record {
  host = length p.host;
  key = length p.key;
  components = length p.components;
  port = p.port;
  minor = p.minor;
}

-- what the profile or its first fault leads to
abbrev pub ReadsIiop : Result iiop.Profile CdrFault → Profile → Profile → List ℕ → List ℕ
    → List ℕ → List ℕ → Fault → Fault → ℕ → Type 0
ReadsIiop (Ok p) r r' host host' key key' f f' status =
    (r' ≡ c_profile p) × (f' ≡ f) × Copied p.host p.key host host' key key' status
ReadsIiop (Err e) r r' host host' key key' f f' status =
    (status ≡ fault) × (r' ≡ r) × (f' ≡ c_cdr_fault e) × (host' ≡ host) × (key' ≡ key)

-- so; or memory ran out for octets that are a profile, and nothing is written
abbrev pub ReadsIiopOrNot : Result iiop.Profile CdrFault → Profile → Profile → List ℕ → List ℕ
    → List ℕ → List ℕ → Fault → Fault → ℕ → Type 0
ReadsIiopOrNot read r r' host host' key key' f f' status =
    ReadsIiop read r r' host host' key key' f f' status
    ⊎ (IsOk read × (status ≡ no_memory) × (r' ≡ r) × (f' ≡ f) × (host' ≡ host) × (key' ≡ key))

-- ---- a corbaloc (7.6.10.1)

-- a fault of a corbaloc: its place and its number
abbrev pub c_corbaloc_fault : CorbalocFault → Fault
c_corbaloc_fault e = record { at = e.at; number = faults.corbaloc_kind_number e.kind }

-- its status
abbrev pub corbaloc_status : CorbalocKind → ℕ
corbaloc_status corbaloc.NoMemory = no_memory
corbaloc_status _ = fault

-- a corbaloc whose key or host is too long for a profile
abbrev pub too_long : Fault
too_long = record { at = 0; number = 9 }

-- the text of a corbaloc's reference is copied, or memory ran out; or it has none, since it is too
-- long for a profile or for a reference
abbrev pub WritesCorbaloc : Corbaloc → List ℕ → List ℕ → ℕ → ℕ → Fault → Fault → ℕ → Type 0
WritesCorbaloc c buffer buffer' size size' f f' status =
    ((are_profiles c ≡ true) × (ior_layout.fits (ior_of c) ≡ true) × (f' ≡ f)
    × CopiesReference (Some (ior_of c)) buffer buffer' size size' status)
    ⊎ ((are_profiles c ≡ true) × (status ≡ no_memory) × (f' ≡ f)
    × ((buffer' ≡ buffer) × (size' ≡ size)))
    ⊎ (((are_profiles c ≡ false) ⊎ (ior_layout.fits (ior_of c) ≡ false)) × (status ≡ fault)
    × (f' ≡ too_long) × ((buffer' ≡ buffer) × (size' ≡ size)))

-- the text is no corbaloc, and the fault told, or memory ran out; or the reference's text is copied of
-- the corbaloc that it is, where it has one
abbrev pub ReadsCorbaloc : List ℕ → List ℕ → List ℕ → ℕ → ℕ → Fault → Fault → ℕ → Type 0
ReadsCorbaloc octets buffer buffer' size size' f f' status =
    ((e : CorbalocFault) × ((corbaloc_of octets ≡ Err e)
    ⊎ ((e ≡ faults.no_memory) × IsOk (corbaloc_of octets)))
    × ((status ≡ corbaloc_status e.kind) × (f' ≡ c_corbaloc_fault e)
    × (buffer' ≡ buffer) × (size' ≡ size)))
    ⊎ ((c : Corbaloc) × (corbaloc_of octets ≡ Ok c)
    × WritesCorbaloc c buffer buffer' size size' f f' status)
