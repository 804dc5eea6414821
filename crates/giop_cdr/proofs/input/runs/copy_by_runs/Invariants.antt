use Rattle.std.proofs.Common.{◌≡◌, ◌-◌, ◌≤◌, take, drop, length, vec_len}
use Rattle.giop_cdr.proofs.input.runs.copy_by_runs.Given as goal

abbrev pub invariant-runs : goal.invariant-runs
invariant-runs g l =
    (l.octets.items ≡ take (length l.octets.items) (drop l.from (g.S.Octets.octets l.source))) × (vec_len l.octets ≤ l.count)

abbrev pub decreases-runs : goal.decreases-runs
decreases-runs g l = l.count - vec_len l.octets
