use Rattle.std.proofs.Common.{◌≡◌, None}
use Rattle.giop_end.specs.Ends.View.{IsTurned}
use Rattle.giop_commands.specs.Calling.{asked_of}
use Rattle.giop_commands.specs.CallStreaming.{TurnTells, course_of}
use Rattle.giop_commands.proofs.StepLemmas.{Counted}
use Rattle.giop_commands.proofs.call.streaming.converse.Given as goal

abbrev pub invariant-turns : goal.invariant-turns
invariant-turns g l = record {
  streamed :
      Counted (λ turn s t. TurnTells (asked_of l.calling l.fn.left.items) l.lines s t) l.done
      (course_of (g.R.Read.remaining l.fn.reader) (g.W.Write.contents l.fn.writer) (g.O.Write.contents l.fn.out) l.fn.end l.fn.left.items l.fn.well)
      (course_of (g.R.Read.remaining l.reader) (g.W.Write.contents l.writer) (g.O.Write.contents l.out) l.end l.left.items l.well);
  fault : l.end.fault ≡ None;
  others : IsTurned l.fn.end l.end;
}
