use Rattle.std.proofs.Common.{◌-◌, ◌≤◌, length}
use Rattle.giop_bench.proofs.frag.checksum.Given as goal

abbrev pub invariant-runs : goal.invariant-runs
invariant-runs l = l.at ≤ length l.chain

abbrev pub decreases-runs : goal.decreases-runs
decreases-runs l = length l.chain - l.at
