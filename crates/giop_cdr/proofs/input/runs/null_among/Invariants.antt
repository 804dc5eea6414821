use Rattle.std.proofs.Common.{◌≡◌, ◌-◌, ◌≤◌, take, drop, false}
use Rattle.giop_cdr.specs.Reading.Values.{has_null}
use Rattle.giop_cdr.proofs.input.runs.null_among.Given as goal

abbrev pub invariant-runs : goal.invariant-runs
invariant-runs g l = (has_null (take l.done (drop l.from (g.S.Octets.octets l.source))) ≡ false) × (l.done ≤ l.count)

abbrev pub decreases-runs : goal.decreases-runs
decreases-runs g l = l.count - l.done
