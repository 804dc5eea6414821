-- A corbaloc text read from the left, and the first fault in it with its place (CORBA 3.3 Part 2,
-- 7.6.10.1). The address list ends before the first "/"; commas part the addresses. Of an address
-- the version is what stands before its first "@", the port what stands behind the next ":".
use Rattle.std.specs.Prelude.{ℕ, ◌+◌, Bool, ◌==◌, ◌&&◌, nat_lt, nat_le, nat_eq, if◌then◌else◌, List, [], ◌∷◌, length, take, drop, codes, Option, Some, None, option_map, Ok, Err, slice_index}
use Rattle.std.specs.Char.{is_digit, is_ascii_digit}
use Rattle.std.specs.Cmp.Lexicographic.{pointwise}
use Rattle.std.specs.List.{position, list_all, slice_split}
use Rattle.std.specs.Option.{ok_or}
use Rattle.std.specs.Str.Parse.{digits_value}
use Rattle.percent_encoding.specs.Percent.{percent_decode}
use Rattle.giop_ior.specs.declared.addresses.address.Address.{Address}
use Rattle.giop_ior.specs.declared.addresses.corbaloc.Corbaloc.{Corbaloc}
use Rattle.giop_ior.specs.declared.addresses.corbaloc_fault.CorbalocFault.{CorbalocFault}
use Rattle.giop_ior.specs.declared.addresses.corbaloc_fault.CorbalocKind.{CorbalocKind}
use Rattle.giop_ior.specs.declared.addresses.corbaloc_fault.CorbalocKind.TheVariants.{BadPrefix, BadProtocol, BadHost, BadPort, BadVersion, BadEscape, BadChar}
use Rattle.giop_ior.specs.Corbaloc.{is_host_octet, is_key_octet}
use Rattle.giop_ior.specs.CorbalocFault.{Read, fault, ◌>>=◌}

-- what stands before and behind the first of these octets, where there is one
abbrev pub cut : ℕ → List ℕ → Option (List ℕ × List ℕ)
cut octet text =
    option_map (λ i. (take i text, drop (i + 1) text)) (position (λ x. x == octet) text)

-- whether the text begins with these octets
abbrev pub begins : List ℕ → List ℕ → Bool
begins front text = pointwise nat_eq (take (length front) text) front

-- ---- an address

-- the number that 1 to n decimal digits write
abbrev pub number_of : ℕ → List ℕ → Option ℕ
number_of n text =
    if nat_lt 0 (length text) && nat_le (length text) n && list_all is_ascii_digit text
    then Some (digits_value 10 text)
    else None

-- a number that is at most this
abbrev pub up_to : ℕ → Option ℕ → Option ℕ
up_to most None = None
up_to most (Some x) = if nat_le x most then Some x else None

-- the minor number of a version, where the major one is 1
abbrev pub minor_behind : Option ℕ → Option ℕ → Option ℕ
minor_behind None minor = None
minor_behind (Some major) minor = if major == 1 then minor else None

-- the minor number of a version
abbrev pub minor_of_parts : Option (List ℕ × List ℕ) → Option ℕ
minor_of_parts None = None
minor_of_parts (Some parts) = minor_behind (number_of 3 parts.0) (up_to 255 (number_of 3 parts.1))

-- the minor number of a version, which a "." parts from the major
abbrev pub minor_of : List ℕ → Option ℕ
minor_of text = minor_of_parts (cut 46 text)

-- the number of a port
abbrev pub port_of : List ℕ → Option ℕ
port_of text = up_to 65535 (number_of 5 text)

-- whether octets are a host's name
abbrev pub is_host : List ℕ → Bool
is_host text = nat_lt 0 (length text) && list_all is_host_octet text

-- the host, and what is to be known behind it
abbrev pub host_at : ℕ → List ℕ → Read (List ℕ)
host_at at text = if is_host text then Ok text else Err (fault at BadHost)

-- the host and the port, where a ":" parts them
abbrev pub endpoint_of_parts : ℕ → ℕ → List ℕ → Option (List ℕ × List ℕ) → Read Address
endpoint_of_parts minor at text None =
    host_at at text >>= λ host. Ok (record { major = 1; minor = minor; host = host; port = 2809 })
endpoint_of_parts minor at text (Some parts) =
    host_at at parts.0 >>= λ host.
    ok_or (port_of parts.1) (fault (at + length parts.0 + 1) BadPort) >>= λ port.
    Ok (record { major = 1; minor = minor; host = host; port = port })

-- an address from its host on
abbrev pub endpoint_at : ℕ → ℕ → List ℕ → Read Address
endpoint_at minor at text = endpoint_of_parts minor at text (cut 58 text)

-- an address from its version on, where a "@" parts them
abbrev pub located_of_parts : ℕ → List ℕ → Option (List ℕ × List ℕ) → Read Address
located_of_parts at text None = endpoint_at 0 at text
located_of_parts at text (Some parts) =
    ok_or (minor_of parts.0) (fault at BadVersion) >>= λ minor.
    endpoint_at minor (at + length parts.0 + 1) parts.1

-- an address from its version on
abbrev pub located_at : ℕ → List ℕ → Read Address
located_at at text = located_of_parts at text (cut 64 text)

-- the length of the protocol that an address begins with
abbrev pub protocol_len : List ℕ → Option ℕ
protocol_len text =
    if begins (codes ":") text then Some 1
    else if begins (codes "iiop:") text then Some 5
    else None

-- an address that begins at a place of the text
unfoldable pub address_at : ℕ → List ℕ → Read Address
address_at at text =
    ok_or (protocol_len text) (fault at BadProtocol) >>= λ n.
    located_at (at + n) (drop n text)

-- addresses, one behind the other with a comma between
abbrev pub each_at : ℕ → List (List ℕ) → Read (List Address)
each_at at [] = Ok []
each_at at (text ∷ more) =
    address_at at text >>= λ address.
    each_at (at + length text + 1) more >>= λ addresses.
    Ok (address ∷ addresses)

-- a list of addresses, parted by commas
abbrev pub addresses_at : ℕ → List ℕ → Read (List Address)
addresses_at at text = each_at at (slice_split (λ x. x == 44) text)

-- ---- the key

-- what is wrong with an octet of the key that neither stands for itself nor begins an escape
abbrev pub wrong_key_octet : ℕ → CorbalocKind
wrong_key_octet octet = if octet == 37 then BadEscape else BadChar

-- "%" and two hexadecimal digits
abbrev pub is_escape : ℕ → ℕ → ℕ → Bool
is_escape mark high low = mark == 37 && is_digit high 16 && is_digit low 16

-- the first fault of a key that begins at a place of the text
abbrev pub key_fault : ℕ → List ℕ → Option CorbalocFault
key_fault at [] = None
key_fault at (x ∷ []) = if is_key_octet x then None else Some (fault at (wrong_key_octet x))
key_fault at (x ∷ y ∷ []) =
    if is_key_octet x then key_fault (at + 1) (y ∷ []) else Some (fault at (wrong_key_octet x))
key_fault at (x ∷ y ∷ z ∷ text) =
    if is_key_octet x then key_fault (at + 1) (y ∷ z ∷ text)
    else if is_escape x y z then key_fault (at + 3) text
    else Some (fault at (wrong_key_octet x))

-- how many octets spell the first octet of the key: 0 where none do
abbrev pub key_octet_len : List ℕ → ℕ
key_octet_len text =
    if is_key_octet (slice_index text 0) then 1
    else if is_escape (slice_index text 0) (slice_index text 1) (slice_index text 2) then 3
    else 0

-- the octets of a key in which nothing is wrong
abbrev pub key_unless : Option CorbalocFault → List ℕ → Read (List ℕ)
key_unless None text = Ok (percent_decode text)
key_unless (Some e) text = Err e

-- a key
unfoldable pub key_at : ℕ → List ℕ → Read (List ℕ)
key_at at text = key_unless (key_fault at text) text

-- ---- the whole text

-- a corbaloc, where a "/" parts its addresses from its key
abbrev pub corbaloc_of_parts : List ℕ → Option (List ℕ × List ℕ) → Read Corbaloc
corbaloc_of_parts text None =
    addresses_at 9 text >>= λ addresses.
    Ok (record { addresses = addresses; key = [] })
corbaloc_of_parts text (Some parts) =
    addresses_at 9 parts.0 >>= λ addresses.
    key_at (9 + length parts.0 + 1) parts.1 >>= λ key.
    Ok (record { addresses = addresses; key = key })

-- the corbaloc that a text is, or its first fault from the left
unfoldable pub corbaloc_of : List ℕ → Read Corbaloc
corbaloc_of text =
    if begins (codes "corbaloc:") text
    then corbaloc_of_parts (drop 9 text) (cut 47 (drop 9 text))
    else Err (fault 0 BadPrefix)
