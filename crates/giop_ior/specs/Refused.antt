-- Which fault a text has that is no corbaloc, by the grammar alone (CORBA 3.3 Part 2, 7.6.10.1): a
-- line for each production that may be missing. Marks part a text: the first "/" the addresses from
-- the key, commas the addresses, and in one address the first "@" the version and the next ":" the
-- port.
use Rattle.std.specs.Prelude.{◌≡◌, ℕ, ◌+◌, ◌==◌, ◌⊎◌, false, if◌then◌else◌, List, [], ◌∷◌, ◌++◌, length, codes}
use Rattle.std.specs.List.{All, slice_split}
use Rattle.giop_ior.specs.declared.addresses.address.Address.{Address}
use Rattle.giop_ior.specs.declared.addresses.corbaloc_fault.CorbalocFault.{CorbalocFault}
use Rattle.giop_ior.specs.declared.addresses.corbaloc_fault.CorbalocKind.TheVariants.{BadPrefix, BadProtocol, BadHost, BadPort, BadVersion, BadEscape, BadChar}
use Rattle.giop_ior.specs.Corbaloc.{ProtocolText, VersionText, IsHost, PortText, AddressText, AddressesText, KeyOctetText, KeyText}
use Rattle.giop_ior.specs.CorbalocFault.{fault}

-- no octet of a text is this one
abbrev pub Lacks : ℕ → List ℕ → Type 0
Lacks octet text = All (λ x. (x == octet) ≡ false) text

-- the first of this octet stands between these two parts of a text
abbrev pub IsParted : ℕ → List ℕ → List ℕ → List ℕ → Type 0
IsParted octet text front back = (text ≡ front ++ octet ∷ back) × Lacks octet front

-- ---- an address

-- what stands there is no host
abbrev pub RefusedHost : ℕ → List ℕ → CorbalocFault → Type 0
RefusedHost at text e = (IsHost text → ⊥) × (e ≡ fault at BadHost)

-- it is one, and what stands behind it and its ":" is no port
abbrev pub RefusedPort : ℕ → List ℕ → List ℕ → CorbalocFault → Type 0
RefusedPort at host text e =
    IsHost host × ((port : ℕ) → PortText port text → ⊥)
    × (e ≡ fault (at + length host + 1) BadPort)

-- host [ ":" port ]
abbrev pub RefusedEndpoint : ℕ → List ℕ → CorbalocFault → Type 0
RefusedEndpoint at text e =
    (Lacks 58 text × RefusedHost at text e)
    ⊎ ((host : List ℕ) × (port : List ℕ) × IsParted 58 text host port
    × (RefusedHost at host e ⊎ RefusedPort at host port e))

-- what stands before the "@" is no version; or it is one, and what stands behind is refused
abbrev pub RefusedVersion : ℕ → List ℕ → List ℕ → CorbalocFault → Type 0
RefusedVersion at version text e =
    (((minor : ℕ) → VersionText 1 minor version → ⊥) × (e ≡ fault at BadVersion))
    ⊎ ((minor : ℕ) × VersionText 1 minor version × RefusedEndpoint (at + length version + 1) text e)

-- [ version "@" ] host [ ":" port ]
abbrev pub RefusedLocated : ℕ → List ℕ → CorbalocFault → Type 0
RefusedLocated at text e =
    (Lacks 64 text × RefusedEndpoint at text e)
    ⊎ ((version : List ℕ) × (rest : List ℕ) × IsParted 64 text version rest
    × RefusedVersion at version rest e)

-- protocol [ version "@" ] host [ ":" port ]
abbrev pub RefusedAddress : ℕ → List ℕ → CorbalocFault → Type 0
RefusedAddress at text e =
    (((protocol rest : List ℕ) → text ≡ protocol ++ rest → ProtocolText protocol → ⊥)
    × (e ≡ fault at BadProtocol))
    ⊎ ((protocol : List ℕ) × (rest : List ℕ) × (text ≡ protocol ++ rest) × ProtocolText protocol
    × RefusedLocated (at + length protocol) rest e)

-- the first of these texts that is no address
abbrev pub RefusedAmong : ℕ → List (List ℕ) → CorbalocFault → Type 0
RefusedAmong at [] e = ⊥
RefusedAmong at (text ∷ more) e =
    RefusedAddress at text e
    ⊎ ((address : Address) × AddressText address text × RefusedAmong (at + length text + 1) more e)

-- address *( "," address )
abbrev pub RefusedAddresses : ℕ → List ℕ → CorbalocFault → Type 0
RefusedAddresses at text e = RefusedAmong at (slice_split (λ x. x == 44) text) e

-- ---- the key

-- behind key octets stands one that begins none: a "%" without its digits, or another octet
pub record RefusedKey (at : ℕ) (text : List ℕ) (e : CorbalocFault) : Type 0 where
  pub key : List ℕ
  pub front : List ℕ
  pub octet : ℕ
  pub back : List ℕ
  pub parts : text ≡ front ++ octet ∷ back
  pub keyed : KeyText key front
  pub none : (value : ℕ) (first rest : List ℕ) → octet ∷ back ≡ first ++ rest
      → KeyOctetText value first → ⊥
  pub is : e ≡ fault (at + length front) (if octet == 37 then BadEscape else BadChar)

-- ---- the whole text

-- addresses [ "/" key ]
abbrev pub RefusedParts : ℕ → List ℕ → CorbalocFault → Type 0
RefusedParts at text e =
    (Lacks 47 text × RefusedAddresses at text e)
    ⊎ ((list : List ℕ) × (key : List ℕ) × IsParted 47 text list key
    × (RefusedAddresses at list e
    ⊎ ((addresses : List Address) × AddressesText addresses list
    × RefusedKey (at + length list + 1) key e)))

-- "corbaloc:" addresses [ "/" key ]
abbrev pub RefusedCorbaloc : List ℕ → CorbalocFault → Type 0
RefusedCorbaloc text e =
    (((rest : List ℕ) → text ≡ codes "corbaloc:" ++ rest → ⊥) × (e ≡ fault 0 BadPrefix))
    ⊎ ((rest : List ℕ) × (text ≡ codes "corbaloc:" ++ rest) × RefusedParts 9 rest e)
