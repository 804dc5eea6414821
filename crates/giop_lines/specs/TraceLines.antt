-- Parts of the lines that `trace` writes of calls.
use Rattle.std.specs.Prelude.{ℕ, List, ◌++◌, Option, Some, None, codes}
use Rattle.std.specs.Fmt.{decimal}
use Rattle.std.specs.Int.{to_be_bytes, w32}
use Rattle.giop_lines.specs.Octets.{hex_text}

-- the id of a call, - where there is none
abbrev pub call_id_text : Option ℕ → List ℕ
call_id_text (Some id) = decimal id
call_id_text None = codes "-"

-- a minor code, and again in eight hexadecimal digits: MINOR 0xHEX
abbrev pub minor_text : ℕ → List ℕ
minor_text minor = decimal minor ++ (codes " 0x" ++ hex_text (to_be_bytes w32 minor))
