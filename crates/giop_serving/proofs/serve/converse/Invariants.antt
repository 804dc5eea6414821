use Rattle.std.proofs.Common.{◌≡◌, None}
use Rattle.giop_end.specs.Ends.View.{IsTurned}
use Rattle.giop_serving.specs.Serve.Serving.{TurnAnswers, served_of, session_at}
use Rattle.giop_commands.proofs.OnSession.StepLemmas.{Counted}
use Rattle.giop_serving.proofs.serve.converse.Given as goal

abbrev pub invariant-turns : goal.invariant-turns
invariant-turns g l = record {
  served :
      Counted (λ turn s t. TurnAnswers (served_of l.serving) l.fn.end.limits s None t) l.done
      (session_at (g.R.Read.remaining l.fn.pipes.reader) (g.W.Write.contents l.fn.pipes.writer) l.fn.end l.fn.passed)
      (session_at (g.R.Read.remaining l.pipes.reader) (g.W.Write.contents l.pipes.writer) l.end l.passed);
  others : IsTurned l.fn.end l.end;
  out : l.pipes.out ≡ l.fn.pipes.out;
}
