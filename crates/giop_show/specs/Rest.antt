-- What is left behind the messages of a file.
use Rattle.std.specs.Prelude.{ℕ, List, Option, None, length, take, nat_le, if◌then◌else◌}
use Rattle.giop_msg.specs.declared.fault.WireFault.{WireFault}
use Rattle.giop_msg.specs.Header.{header_fault}
use Rattle.giop_lines.specs.DumpJson as json
use Rattle.giop_lines.specs.Lines.{rest_line}
use Rattle.giop_forms.specs.declared.line_form.LineForm.{LineForm}
use Rattle.giop_show.specs.Forms.{line_in}

-- the fault in the header that begins the rest, if that is whole and wrong
abbrev pub rest_fault : ℕ → List ℕ → Option WireFault
rest_fault limit rest = if nat_le 12 (length rest) then header_fault limit (take 12 rest) else None

-- the last line: how many octets are left
abbrev pub rest_in : LineForm → ℕ → List ℕ
rest_in form n = line_in form (rest_line n) (json.rest_json n)
