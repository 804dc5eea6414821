use Rattle.std.proofs.Common.{◌≡◌, [], None}
use Rattle.giop_end.specs.Pumping.{between}
use Rattle.giop_commands.specs.CallFeeding.{FedTurn, fed}
use Rattle.giop_commands.specs.CallLines.{feed, so_far}
use Rattle.giop_commands.specs.Calling.{asked_of}
use Rattle.giop_commands.proofs.StepLemmas.{Counted}
use Rattle.giop_commands.proofs.call.streaming.feeding.converse.Given as goal

abbrev pub invariant-turns : goal.invariant-turns
invariant-turns g l = record {
  streamed :
      Counted (λ turn s t. FedTurn (asked_of l.calling []) l.lines l.fn.source.waits s t) l.done
      (fed
      (between (g.R.Read.remaining l.fn.reader) (g.W.Write.contents l.fn.writer) l.fn.end.outgoing l.fn.end.framer l.fn.end.calls l.fn.end.fault)
      (g.O.Write.contents l.fn.out) (feed (g.S.Read.remaining l.fn.source.source) (so_far l.fn.source.lines)) l.fn.well)
      (fed (between (g.R.Read.remaining l.reader) (g.W.Write.contents l.writer) l.end.outgoing l.end.framer l.end.calls l.end.fault)
      (g.O.Write.contents l.out) (feed (g.S.Read.remaining l.source.source) (so_far l.source.lines)) l.well);
  waits : l.source.waits ≡ l.fn.source.waits;
  fault : l.end.fault ≡ None;
  others : l.end ≡ record l.fn.end { outgoing = l.end.outgoing; framer = l.end.framer; calls = l.end.calls; fault = l.end.fault };
}
