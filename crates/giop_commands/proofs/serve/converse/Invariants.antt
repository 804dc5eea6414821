use Rattle.std.proofs.Common.{◌≡◌, None}
use Rattle.giop_end.specs.Pumping.{between}
use Rattle.giop_commands.specs.Serving.{TurnAnswers, served_of, session}
use Rattle.giop_commands.proofs.StepLemmas.{Counted}
use Rattle.giop_commands.proofs.serve.converse.Given as goal

abbrev pub invariant-turns : goal.invariant-turns
invariant-turns g l = record {
  served :
      Counted (λ turn s t. TurnAnswers (served_of l.serving) l.fn.end.limits s None t) l.done
      (session
      (between (g.R.Read.remaining l.fn.reader) (g.W.Write.contents l.fn.writer) l.fn.end.outgoing l.fn.end.framer l.fn.end.calls l.fn.end.fault)
      l.fn.passed.names.items)
      (session (between (g.R.Read.remaining l.reader) (g.W.Write.contents l.writer) l.end.outgoing l.end.framer l.end.calls l.end.fault)
      l.passed.names.items);
  others : l.end ≡ record l.fn.end { outgoing = l.end.outgoing; framer = l.end.framer; calls = l.end.calls; fault = l.end.fault };
}
