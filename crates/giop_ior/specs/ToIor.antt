-- The reference of a corbaloc (CORBA 3.3 Part 2, 7.6.10.1): an IIOP profile for each address.
use Rattle.std.specs.Prelude.{◌≡◌, ℕ, Bool, List, [], map, Ok}
use Rattle.std.specs.List.{list_all, AllByRecursion}
use Rattle.giop_ior.specs.declared.addresses.address.Address.{Address}
use Rattle.giop_ior.specs.declared.addresses.corbaloc.Corbaloc.{Corbaloc}
use Rattle.giop_ior.specs.declared.references.tagged_profile.TaggedProfile.{TaggedProfile}
use Rattle.giop_ior.specs.Iiop.{Profile, iiop_layout, iiop_octets, iiop_of}
use Rattle.giop_ior.specs.Ior.{Reference}

-- an address and the key as a profile: it has no components
abbrev pub address_profile : List ℕ → Address → Profile
address_profile key a =
    record {
      major = a.major;
      minor = a.minor;
      host = a.host;
      port = a.port;
      key = key;
      components = [];
    }

-- an address and the key as a tagged profile
abbrev pub profile_of : List ℕ → Address → TaggedProfile
profile_of key a = record { tag = 0; octets = iiop_octets (address_profile key a) }

-- no type id, and a profile for each address, in their order
abbrev pub ior_of : Corbaloc → Reference
ior_of c = record { type_id = []; profiles = map (profile_of c.key) c.addresses }

-- whether each address can be written as a profile
abbrev pub are_profiles : Corbaloc → Bool
are_profiles c = list_all (λ a. iiop_layout.fits (address_profile c.key a)) c.addresses

-- the profile of each address reads as that address
abbrev pub ReadAsAddresses : Corbaloc → Type 0
ReadAsAddresses c =
    AllByRecursion
    (λ a. iiop_of (profile_of c.key a).octets ≡ Ok (address_profile c.key a))
    c.addresses
