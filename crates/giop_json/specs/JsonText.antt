-- Texts of JSON that stand for octets: the characters U+0000 to U+00FF are the octets 0 to 255.
use Rattle.std.specs.Prelude.{ℕ, ◌^◌, nat_lt, if◌then◌else◌, List, [], ◌∷◌, Option, Some, None}
use Rattle.std.specs.Prelude.{option_map, encode_utf8_all, chars}

-- the text of octets, in UTF-8
abbrev pub text_of : List ℕ → List ℕ
text_of octets = encode_utf8_all octets

-- the octets that these characters are, unless one is above U+00FF
abbrev pub octets_of_chars : List ℕ → Option (List ℕ)
octets_of_chars [] = Some []
octets_of_chars (c ∷ cs) =
    if nat_lt c (2 ^ 8) then option_map (λ octets. c ∷ octets) (octets_of_chars cs) else None

-- the octets that a text stands for, unless a character is above U+00FF
abbrev pub octets_in : List ℕ → Option (List ℕ)
octets_in text = octets_of_chars (chars text)
