use Rattle.std.proofs.Common.{take}
use Rattle.std.specs.Fmt.{HasWritten, IsPlainFormatter}
use Rattle.giop_lines.specs.JsonLines.{octets_json}
use Rattle.giop_lines.proofs.json.OctetsJsonDisplay.fmt.Given as goal

abbrev pub invariant-loop-octet : goal.invariant-loop-octet
invariant-loop-octet g l =
    IsPlainFormatter l.initial.f → HasWritten g.W.Write.write_str_gives l.initial.f (octets_json (take l.octet-index l.octet-items)) l.f
