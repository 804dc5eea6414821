-- The grammar of corbaloc texts (CORBA 3.3 Part 2, 7.6.10.1 and 7.6.10.3). Each relation is a line
-- of it, from the parts up to the whole text; texts are octets.
use Rattle.std.specs.Prelude.{◌≡◌, ℕ, ◌≤◌, ◌+◌, ◌*◌, ◌<◌, Bool, true, ◌==◌, ◌||◌, ◌⊎◌, List, [], ◌∷◌, ◌++◌, length, codes}
use Rattle.std.specs.Char.{is_ascii_alphanumeric, is_digit, digit_value}
use Rattle.std.specs.List.{list_any, list_all}
use Rattle.std.specs.Str.Parse.{IsNumeral, digits_value}
use Rattle.giop_ior.specs.declared.addresses.address.Address.{Address}
use Rattle.giop_ior.specs.declared.addresses.corbaloc.Corbaloc.{Corbaloc}

-- 1 to n decimal digits
abbrev pub NumberText : ℕ → ℕ → List ℕ → Type 0
NumberText n x text = IsNumeral 10 text × (length text ≤ n) × (digits_value 10 text ≡ x)

-- version = 1*3DIGIT "." 1*3DIGIT, of which the first is 1 and the second at most 255
pub record VersionText (major minor : ℕ) (text : List ℕ) : Type 0 where
  pub front : List ℕ
  pub back : List ℕ
  pub parts : text ≡ front ++ codes "." ++ back
  pub is_major : NumberText 3 major front
  pub is_minor : NumberText 3 minor back
  pub first : major ≡ 1
  pub small : minor ≤ 255

-- version 1.0 where the text has none
abbrev pub VersionPartText : ℕ → ℕ → List ℕ → Type 0
VersionPartText major minor text =
    ((text ≡ []) × (major ≡ 1) × (minor ≡ 0))
    ⊎ ((version : List ℕ) × (text ≡ version ++ codes "@") × VersionText major minor version)

-- protocol = ":" / "iiop:"
abbrev pub ProtocolText : List ℕ → Type 0
ProtocolText text = (text ≡ codes ":") ⊎ (text ≡ codes "iiop:")

-- a letter, a digit or one of -_.
abbrev pub is_host_octet : ℕ → Bool
is_host_octet octet = is_ascii_alphanumeric octet || list_any (λ mark. mark == octet) (codes "-_.")

-- host = 1*( ALPHA / DIGIT / "-" / "_" / "." )
abbrev pub IsHost : List ℕ → Type 0
IsHost text = (0 < length text) × (list_all is_host_octet text ≡ true)

-- port = 1*5DIGIT, at most 65535
abbrev pub PortText : ℕ → List ℕ → Type 0
PortText port text = NumberText 5 port text × (port ≤ 65535)

-- port 2809 where the text has none
abbrev pub PortPartText : ℕ → List ℕ → Type 0
PortPartText port text =
    ((text ≡ []) × (port ≡ 2809))
    ⊎ ((digits : List ℕ) × (text ≡ codes ":" ++ digits) × PortText port digits)

-- address = protocol [ version "@" ] host [ ":" port ]
pub record AddressText (a : Address) (text : List ℕ) : Type 0 where
  pub protocol : List ℕ
  pub version : List ℕ
  pub end : List ℕ
  pub parts : text ≡ protocol ++ version ++ a.host ++ end
  pub is_protocol : ProtocolText protocol
  pub is_version : VersionPartText a.major a.minor version
  pub is_host : IsHost a.host
  pub is_port : PortPartText a.port end

-- addresses = address *( "," address )
abbrev pub AddressesText : List Address → List ℕ → Type 0
AddressesText [] text = ⊥
AddressesText (a ∷ []) text = AddressText a text
AddressesText (a ∷ b ∷ more) text =
    (first : List ℕ) × (rest : List ℕ) × (text ≡ first ++ codes "," ++ rest)
    × AddressText a first × AddressesText (b ∷ more) rest

-- a letter, a digit or one of ;/:?@&=+$,-_.!~*'()
abbrev pub is_key_octet : ℕ → Bool
is_key_octet octet =
    is_ascii_alphanumeric octet || list_any (λ mark. mark == octet) (codes ";/:?@&=+$,-_.!~*'()")

-- "%" and the two digits of the octet, the high one first
pub record EscapeText (octet : ℕ) (text : List ℕ) : Type 0 where
  pub high : ℕ
  pub low : ℕ
  pub parts : text ≡ codes "%" ++ high ∷ low ∷ []
  pub is_high : is_digit high 16 ≡ true
  pub is_low : is_digit low 16 ≡ true
  pub value : octet ≡ 16 * digit_value high + digit_value low

-- key-octet = ALPHA / DIGIT / ";" / "/" / .. / ")" / "%" HEXDIG HEXDIG
abbrev pub KeyOctetText : ℕ → List ℕ → Type 0
KeyOctetText octet text =
    ((text ≡ octet ∷ []) × (is_key_octet octet ≡ true)) ⊎ EscapeText octet text

-- key = *key-octet
abbrev pub KeyText : List ℕ → List ℕ → Type 0
KeyText [] text = text ≡ []
KeyText (octet ∷ key) text =
    (first : List ℕ) × (rest : List ℕ) × (text ≡ first ++ rest)
    × KeyOctetText octet first × KeyText key rest

-- the empty key where the text has none
abbrev pub KeyPartText : List ℕ → List ℕ → Type 0
KeyPartText key text =
    ((text ≡ []) × (key ≡ [])) ⊎ ((rest : List ℕ) × (text ≡ codes "/" ++ rest) × KeyText key rest)

-- "corbaloc:" addresses [ "/" key ]
pub record CorbalocText (c : Corbaloc) (text : List ℕ) : Type 0 where
  pub front : List ℕ
  pub back : List ℕ
  pub parts : text ≡ codes "corbaloc:" ++ front ++ back
  pub listed : AddressesText c.addresses front
  pub keyed : KeyPartText c.key back
