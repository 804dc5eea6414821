use Rattle.std.proofs.Common.{◌≡◌, ◌++◌}
use Rattle.giop_session.specs.Runs.Driven.{InTurn}
use Rattle.giop_session.proofs.laws.running.take_all.Given as goal

-- the inputs so far have had these answers, and the others are still to come
abbrev pub invariant-loop-input : goal.invariant-loop-input
invariant-loop-input g l = record {
  parts : l.yielded ++ l.input-iterator.rest.items ≡ l.fn.inputs.items;
  run : InTurn g.D.Driven.is_given l.initial.driven l.yielded l.answers.items l.driven;
}
