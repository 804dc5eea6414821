use Rattle.std.proofs.Common.{◌≡◌, ◌+◌, ◌-◌, ◌≤◌, ◌++◌, take}
use Rattle.std.specs.Vec.{vec_len, vec_capacity}
use Rattle.giop_cdr.proofs.output.appending.push_each.Given as goal

abbrev pub invariant-loop-i : goal.invariant-loop-i
invariant-loop-i g l =
    (l.octets.items ≡ l.fn.octets.items ++ take l.i l.field)
    × (vec_len l.octets + (g.row.N - l.i) ≤ vec_capacity l.octets)
    × (vec_capacity l.octets ≡ vec_capacity l.fn.octets)
