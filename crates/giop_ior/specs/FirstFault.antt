-- What the first fault of a corbaloc text is, by the grammar alone (CORBA 3.3 Part 2, 7.6.10.1).
use Rattle.std.specs.Prelude.{◌≡◌, ℕ, ◌+◌, ◌==◌, ◌||◌, Bool, List, ◌++◌, take, drop, codes}
use Rattle.std.specs.List.{position_or_len}
use Rattle.giop_ior.specs.declared.addresses.corbaloc.Corbaloc.{Corbaloc}
use Rattle.giop_ior.specs.declared.addresses.corbaloc_fault.CorbalocFault.{CorbalocFault}
use Rattle.giop_ior.specs.declared.addresses.corbaloc_fault.CorbalocKind.{CorbalocKind}
use Rattle.giop_ior.specs.declared.addresses.corbaloc_fault.CorbalocKind.TheVariants.{BadPrefix, BadProtocol, BadHost, BadPort, BadVersion, BadEscape, BadChar, NoMemory}
use Rattle.giop_ior.specs.Corbaloc.{ProtocolText, IsHost, PortText, VersionText, EscapeText, KeyOctetText, CorbalocText}

-- the production that should stand where a fault of this kind is
abbrev pub IsPart : CorbalocKind → List ℕ → Type 0
IsPart BadPrefix part = part ≡ codes "corbaloc:"
IsPart BadProtocol part = ProtocolText part
IsPart BadHost part = IsHost part
IsPart BadPort part = (port : ℕ) × PortText port part
IsPart BadVersion part = (major : ℕ) × (minor : ℕ) × VersionText major minor part
IsPart BadEscape part = (octet : ℕ) × EscapeText octet part
IsPart BadChar part = (octet : ℕ) × KeyOctetText octet part
IsPart NoMemory part = ⊥

-- "," and "/" end an address
abbrev pub ends_address : ℕ → Bool
ends_address octet = octet == 44 || octet == 47

-- ":" too ends a host
abbrev pub ends_host : ℕ → Bool
ends_host octet = octet == 58 || ends_address octet

-- "@" ends a version
abbrev pub ends_version : ℕ → Bool
ends_version octet = octet == 64

-- the place behind the first mark from a place on, or one behind the text where there is none
abbrev pub behind : (ℕ → Bool) → ℕ → List ℕ → ℕ
behind is_mark at text = at + position_or_len is_mark (drop at text) + 1

-- the place behind the part that begins at this place: behind as many octets as the longest that
-- may stand there, or behind the mark that ends it
abbrev pub part_end : CorbalocKind → ℕ → List ℕ → ℕ
part_end BadPrefix at text = at + 9
part_end BadProtocol at text = at + 5
part_end BadHost at text = behind ends_host at text
part_end BadPort at text = behind ends_address at text
part_end BadVersion at text = behind ends_version at text
part_end BadEscape at text = at + 3
part_end BadChar at text = at + 1
part_end NoMemory at text = at

-- What stands before the place can be continued, by the part that is named, to a text of the
-- grammar; and no text that agrees up to the end of what stands there instead is one.
pub record IsFirstFault (text : List ℕ) (e : CorbalocFault) : Type 0 where
  pub part : List ℕ
  pub more : List ℕ
  pub corbaloc : Corbaloc
  pub named : IsPart e.kind part
  pub before : CorbalocText corbaloc (take e.at text ++ part ++ more)
  pub after : (other : List ℕ)
      → take (part_end e.kind e.at text) other ≡ take (part_end e.kind e.at text) text
      → (c : Corbaloc) → CorbalocText c other → ⊥
