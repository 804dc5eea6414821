use Rattle.std.proofs.Common.{◌≡◌, drop}
use Rattle.std.specs.Str.{bytes_eq}
use Rattle.giop_types.proofs.without_memory.are_text.Given as goal

abbrev pub invariant-loop-i : goal.invariant-loop-i
invariant-loop-i g l =
    bytes_eq (drop l.i (g.S.Octets.octets l.octets)) (drop l.i l.text) ≡ bytes_eq (g.S.Octets.octets l.octets) l.text
