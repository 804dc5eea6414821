-- The text of a file.
use Rattle.std.specs.Prelude.{ℕ, ◌-◌, ◌==◌, Bool, if◌then◌else◌, List, length, take, slice_index}

-- whether the last octet is a newline
abbrev pub ends_line : List ℕ → Bool
ends_line text = slice_index text (length text - 1) == 10

-- a file's text: one newline at its end is dropped
abbrev pub unended : List ℕ → List ℕ
unended text = if ends_line text then take (length text - 1) text else text
