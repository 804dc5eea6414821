use Rattle.std.proofs.Common.{◌≡◌, [], None}
use Rattle.giop_end.specs.Ends.View.{IsTurned}
use Rattle.giop_calling.specs.Call.Feeding.{FedTurn, fed_of}
use Rattle.giop_asked_calls.specs.Lines.{feed_at}
use Rattle.giop_calling.specs.Call.Calling.{asked_of}
use Rattle.giop_commands.proofs.OnSession.StepLemmas.{Counted}
use Rattle.giop_calling.proofs.call.streaming.feeding.stream_fed.Given as goal

abbrev pub invariant-turns : goal.invariant-turns
invariant-turns g l = record {
  streamed :
      Counted (λ turn s t. FedTurn (asked_of l.calling []) l.calling.lines l.fn.source.waits s t) l.done
      (fed_of (g.R.Read.remaining l.fn.pipes.reader) (g.W.Write.contents l.fn.pipes.writer) (g.O.Write.contents l.fn.pipes.out)
      (feed_at (g.S.Read.remaining l.fn.source.source) l.fn.source) l.fn.end l.fn.well)
      (fed_of (g.R.Read.remaining l.pipes.reader) (g.W.Write.contents l.pipes.writer) (g.O.Write.contents l.pipes.out)
      (feed_at (g.S.Read.remaining l.source.source) l.source) l.end l.well);
  waits : l.source.waits ≡ l.fn.source.waits;
  fault : l.end.fault ≡ None;
  others : IsTurned l.fn.end l.end;
}
