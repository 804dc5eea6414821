use Rattle.std.proofs.Common.{◌≡◌, ◌++◌, take, string_bytes}
use Rattle.hex.specs.Hex.{encode_lower}
use Rattle.giop_lines.proofs.appending.append_hex.Given as goal

abbrev pub invariant-loop-octet : goal.invariant-loop-octet
invariant-loop-octet l =
    string_bytes l.text ≡ string_bytes l.fn.text ++ encode_lower (take l.octet-index l.octets)
