use Rattle.std.proofs.Common.{◌≡◌}
use Rattle.giop_end.specs.Pumping.{between}
use Rattle.giop_commands.specs.Serving.{served_of, session}
use Rattle.giop_commands.specs.Streaming.{TurnTells, shown}
use Rattle.giop_commands.proofs.StepLemmas.{Counted}
use Rattle.giop_commands.proofs.serve.streaming.converse.Given as goal

abbrev pub invariant-turns : goal.invariant-turns
invariant-turns g l = record {
  streamed :
      Counted (λ turn s t. TurnTells (served_of l.serving) l.fn.end.limits l.lines s t) l.done
      (shown
      (session
      (between (g.R.Read.remaining l.fn.reader) (g.W.Write.contents l.fn.writer) l.fn.end.outgoing l.fn.end.framer l.fn.end.calls l.fn.end.fault)
      l.fn.passed.names.items)
      (g.O.Write.contents l.fn.out))
      (shown
      (session (between (g.R.Read.remaining l.reader) (g.W.Write.contents l.writer) l.end.outgoing l.end.framer l.end.calls l.end.fault)
      l.passed.names.items)
      (g.O.Write.contents l.out));
  others : l.end ≡ record l.fn.end { outgoing = l.end.outgoing; framer = l.end.framer; calls = l.end.calls; fault = l.end.fault };
}
