use Rattle.std.proofs.Common.{◌≡◌, None}
use Rattle.giop_end.specs.Ends.View.{IsTurned}
use Rattle.giop_calling.specs.Call.Calling.{asked_of}
use Rattle.giop_calling.specs.Call.Streaming.{TurnTells, course_of}
use Rattle.giop_commands.proofs.OnSession.StepLemmas.{Counted}
use Rattle.giop_calling.proofs.call.streaming.stream_calls.Given as goal

abbrev pub invariant-turns : goal.invariant-turns
invariant-turns g l = record {
  streamed :
      Counted (λ turn s t. TurnTells (asked_of l.calling l.fn.left.items) l.calling.lines s t) l.done
      (course_of (g.R.Read.remaining l.fn.pipes.reader) (g.W.Write.contents l.fn.pipes.writer) (g.O.Write.contents l.fn.pipes.out)
      l.fn.end l.fn.left.items l.fn.well)
      (course_of (g.R.Read.remaining l.pipes.reader) (g.W.Write.contents l.pipes.writer) (g.O.Write.contents l.pipes.out) l.end l.left.items l.well);
  fault : l.end.fault ≡ None;
  others : IsTurned l.fn.end l.end;
}
