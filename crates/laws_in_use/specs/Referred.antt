-- An address, a reference and a profile.
use Rattle.std.specs.Prelude.{ℕ, List, [], ◌∷◌, codes}
use Rattle.giop_ior.specs.declared.addresses.corbaloc.Corbaloc.{Corbaloc}
use Rattle.giop_ior.specs.Iiop.{Profile}
use Rattle.giop_ior.specs.Ior.{Reference}

-- the object `k` at the host `h`, port 9
abbrev pub address : Corbaloc
address = record {
  addresses = record { major = 1; minor = 0; host = codes "h"; port = 9 } ∷ [];
  key = codes "k";
}

-- no object: a type id, and a profile of the tag 1 with one octet
abbrev pub reference : Reference
reference = record {
  type_id = codes "T";
  profiles = record { tag = 1; octets = 171 ∷ [] } ∷ [];
}

-- the octets that it is written as from the offset 0 on, big-endian
abbrev pub reference_octets : List ℕ
reference_octets =
    0 ∷ 0 ∷ 0 ∷ 2 ∷ 84 ∷ 0 ∷ 0 ∷ 0 ∷ 0 ∷ 0 ∷ 0 ∷ 1 ∷ 0 ∷ 0 ∷ 0 ∷ 1 ∷ 0 ∷ 0 ∷ 0 ∷ 1 ∷ 171 ∷ []

-- the profile of that address
abbrev pub profile : Profile
profile = record {
  major = 1;
  minor = 0;
  host = codes "h";
  port = 9;
  key = codes "k";
  components = [];
}

-- its octets: the byte order, and from the offset 1 on the fields
abbrev pub profile_octets : List ℕ
profile_octets = 0 ∷ 1 ∷ 0 ∷ 0 ∷ 0 ∷ 0 ∷ 0 ∷ 2 ∷ 104 ∷ 0 ∷ 0 ∷ 9 ∷ 0 ∷ 0 ∷ 0 ∷ 1 ∷ 107 ∷ []
