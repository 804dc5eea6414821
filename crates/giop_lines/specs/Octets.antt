-- Octets in the lines of the program's output.
use Rattle.std.specs.Prelude.{ℕ, Bool, not, ◌&&◌, ◌==◌, nat_le, List, [], ◌∷◌, codes, if◌then◌else◌}
use Rattle.std.specs.List.{flat_map}
use Rattle.hex.specs.Hex.{encode_lower}
use Rattle.percent_encoding.specs.Percent.{percent_encode_byte}

-- octets in lower-case hexadecimal, - where there are none
abbrev pub hex_text : List ℕ → List ℕ
hex_text [] = codes "-"
hex_text (octet ∷ octets) = encode_lower (octet ∷ octets)

-- the octet stands for itself in a text: it is one of 0x21 to 0x7E, and no %
abbrev pub is_plain : ℕ → Bool
is_plain octet = nat_le 0x21 octet && nat_le octet 0x7E && not (octet == 0x25)

-- an octet in a text: itself, or % and its two upper-case hexadecimal digits
abbrev pub escaped_octet : ℕ → List ℕ
escaped_octet octet = if is_plain octet then octet ∷ [] else percent_encode_byte octet

-- octets as a text, - where there are none
abbrev pub escaped_text : List ℕ → List ℕ
escaped_text [] = codes "-"
escaped_text (octet ∷ octets) = flat_map escaped_octet (octet ∷ octets)
