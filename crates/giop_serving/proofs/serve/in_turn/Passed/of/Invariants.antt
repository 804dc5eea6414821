use Rattle.std.proofs.Common.{◌≡◌, ◌+◌, drop}
use Rattle.giop_serving.specs.Serve.InTurn.{passed_of}
use Rattle.giop_serving.proofs.serve.in_turn.Passed.of.Given as goal

-- how many were counted, and how many are still to be counted
abbrev pub invariant-loop-other : goal.invariant-loop-other
invariant-loop-other l =
    l.count + passed_of (drop l.other-index l.names) l.key l.name ≡ passed_of l.names l.key l.name
