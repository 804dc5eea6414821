use Rattle.std.proofs.Common.{◌≡◌, take}
use Rattle.giop_asked_calls.specs.Lines.{octets_taken, so_far}
use Rattle.giop_asked_calls.proofs.lines.CallLines.take_octets.Given as goal

abbrev pub invariant-octets : goal.invariant-octets
invariant-octets l = so_far l.self ≡ octets_taken l.interface (so_far l.initial.self) (take l.octet-index l.octets)
