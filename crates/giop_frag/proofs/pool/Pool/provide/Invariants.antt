use Rattle.std.proofs.Common.{length, ◌-◌, ◌≤◌, max}
use Rattle.giop_frag.specs.Blocks.{HasGrown}
use Rattle.giop_frag.proofs.pool.Pool.provide.Given as goal

abbrev pub invariant-loop-self : goal.invariant-loop-self
invariant-loop-self l = record {
  grown : HasGrown l.initial.self l.self;
  few : length l.self.free ≤ max (length l.initial.self.free) l.wanted;
}

abbrev pub decreases-loop-self : goal.decreases-loop-self
decreases-loop-self l = l.wanted - length l.self.free
