use Rattle.std.proofs.Common.{length, ◌-◌, ◌≡◌, ◌≤◌, ◌+◌, ◌++◌, take}
use Rattle.giop_frag.specs.Blocks.{octets_at, AreWhole, AreWritten}
use Rattle.giop_frag.proofs.pool.Pool.write.Given as goal

abbrev pub invariant-loop-done : goal.invariant-loop-done
invariant-loop-done l = record {
  within : l.done ≤ length l.octets;
  value : octets_at l.self.blocks l.numbers (l.at + l.done) ≡ octets_at l.initial.self.blocks l.numbers l.at ++ take l.done l.octets;
  written : AreWritten l.numbers l.initial.self.blocks l.self.blocks;
  whole : AreWhole l.self.blocks;
  free : l.self.free ≡ l.initial.self.free;
}

abbrev pub decreases-loop-done : goal.decreases-loop-done
decreases-loop-done l = length l.octets - l.done
