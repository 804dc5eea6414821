use Rattle.std.proofs.Common.{◌≡◌}
use Rattle.giop_asked_calls.specs.Lines.{ReadsOnce, feed, so_far}
use Rattle.giop_commands.proofs.OnSession.StepLemmas.{Counted}
use Rattle.giop_asked_calls.proofs.feed.LineFeed.read_on.Given as goal

abbrev pub invariant-reads : goal.invariant-reads
invariant-reads g l = record {
  reads :
      Counted (λ read s t. ReadsOnce l.interface s t) l.done
      (feed (g.S.Read.remaining l.initial.self.source) (so_far l.initial.self.lines))
      (feed (g.S.Read.remaining l.self.source) (so_far l.self.lines));
  waits : l.self.waits ≡ l.initial.self.waits;
}
