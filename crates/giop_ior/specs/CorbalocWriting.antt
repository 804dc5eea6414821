-- How a corbaloc is written (CORBA 3.3 Part 2, 7.6.10.1): each address in full, and the key where
-- there is one.
use Rattle.std.specs.Prelude.{ℕ, ◌<◌, ◌^◌, ◌==◌, ◌&&◌, Bool, not, List, [], ◌∷◌, ◌++◌, length, map, codes, if◌then◌else◌}
use Rattle.std.specs.Fmt.{decimal}
use Rattle.std.specs.List.{flat_map, list_all, join_with_byte, AllByRecursion}
use Rattle.percent_encoding.specs.Percent.{percent_encode_byte}
use Rattle.giop_ior.specs.declared.addresses.address.Address.{Address}
use Rattle.giop_ior.specs.declared.addresses.corbaloc.Corbaloc.{Corbaloc}
use Rattle.giop_ior.specs.Corbaloc.{is_key_octet}
use Rattle.giop_ior.specs.CorbalocReading.{is_host}

-- iiop:major.minor@host:port
abbrev pub address_text : Address → List ℕ
address_text a =
    codes "iiop:" ++ decimal a.major ++ codes "." ++ decimal a.minor ++ codes "@" ++ a.host
    ++ codes ":" ++ decimal a.port

-- an octet of the key: itself, or % and its two upper-case hexadecimal digits
abbrev pub key_octet_text : ℕ → List ℕ
key_octet_text octet = if is_key_octet octet then octet ∷ [] else percent_encode_byte octet

-- / and the key, nothing where it is empty
abbrev pub key_text : List ℕ → List ℕ
key_text [] = []
key_text (octet ∷ key) = codes "/" ++ flat_map key_octet_text (octet ∷ key)

-- the addresses with commas between them
abbrev pub addresses_text : List Address → List ℕ
addresses_text addresses = join_with_byte 44 (map address_text addresses)

-- what stands before the address at an index
abbrev pub comma_before : ℕ → List ℕ
comma_before i = if i == 0 then [] else codes ","

-- the text that is written
unfoldable pub corbaloc_text : Corbaloc → List ℕ
corbaloc_text c = codes "corbaloc:" ++ addresses_text c.addresses ++ key_text c.key

-- ---- whether a text says it

abbrev pub is_writable_address : Address → Bool
is_writable_address a = a.major == 1 && is_host a.host

-- one address at least, each of version 1 and with a host that can be written
unfoldable pub is_writable : Corbaloc → Bool
is_writable c = not (length c.addresses == 0) && list_all is_writable_address c.addresses

-- the numbers are in the range of their types, and the key is of octets
pub record IsInRange (c : Corbaloc) : Type 0 where
  pub majors : AllByRecursion (λ a. a.major < 256) c.addresses
  pub minors : AllByRecursion (λ a. a.minor < 256) c.addresses
  pub ports : AllByRecursion (λ a. a.port < 2 ^ 16) c.addresses
  pub octets : AllByRecursion (λ octet. octet < 256) c.key
