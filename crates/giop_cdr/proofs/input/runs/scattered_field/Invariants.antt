use Rattle.std.proofs.Common.{◌≡◌, take, drop, length}
use Rattle.giop_cdr.proofs.input.runs.scattered_field.Given as goal

abbrev pub invariant-loop-i : goal.invariant-loop-i
invariant-loop-i g l =
    (take l.i l.octets ≡ take l.i (drop l.from (g.S.Octets.octets l.source))) × (length l.octets ≡ g.row.N)
