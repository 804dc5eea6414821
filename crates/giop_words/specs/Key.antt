-- What stands for an object's key on the command line.
use Rattle.std.specs.Prelude.{ℕ, ◌%◌, ◌==◌, ◌&&◌, Bool, true, List, length}
use Rattle.std.specs.Char.{is_ascii_hexdigit}
use Rattle.std.specs.List.{list_all}
use Rattle.giop_words.specs.declared.serve.KeyWord.{KeyWord}
use Rattle.giop_words.specs.declared.serve.KeyWord.TheVariants.{Hex, Text}

-- pairs of hexadecimal digits
abbrev pub is_hexadecimal : List ℕ → Bool
is_hexadecimal text = length text % 2 == 0 && list_all is_ascii_hexdigit text

-- what is said to be hexadecimal is; a text may be any
abbrev pub is_key : KeyWord → Bool
is_key (Hex digits) = is_hexadecimal digits.now
is_key (Text text) = true
