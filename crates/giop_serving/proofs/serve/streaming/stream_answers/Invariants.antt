use Rattle.giop_end.specs.Ends.View.{IsTurned}
use Rattle.giop_serving.specs.Serve.Serving.{served_of, session_at}
use Rattle.giop_serving.specs.Serve.Streaming.{TurnTells, shown}
use Rattle.giop_commands.proofs.OnSession.StepLemmas.{Counted}
use Rattle.giop_serving.proofs.serve.streaming.stream_answers.Given as goal

abbrev pub invariant-turns : goal.invariant-turns
invariant-turns g l = record {
  streamed :
      Counted (λ turn s t. TurnTells (served_of l.serving) l.fn.end.limits l.serving.lines s t) l.done
      (shown (session_at (g.R.Read.remaining l.fn.pipes.reader) (g.W.Write.contents l.fn.pipes.writer) l.fn.end l.fn.passed)
      (g.O.Write.contents l.fn.pipes.out))
      (shown (session_at (g.R.Read.remaining l.pipes.reader) (g.W.Write.contents l.pipes.writer) l.end l.passed) (g.O.Write.contents l.pipes.out));
  others : IsTurned l.fn.end l.end;
}
