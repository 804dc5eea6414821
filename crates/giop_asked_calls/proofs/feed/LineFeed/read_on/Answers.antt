use Rattle.std.proofs.Common.{rules, ◌≡◌, ◌∙◌, true}
use Rattle.giop_asked_calls.specs.Lines.{feed, so_far, wants_more}
use Rattle.giop_commands.proofs.OnSession.StepLemmas.{counted_more}
use Rattle.giop_asked_calls.proofs.feed.LineFeed.read_on.Goals as goal

pub reads-preserved : goal.reads-preserved
reads-preserved g c =
    let wanted : wants_more (so_far c.reads.self.lines) ≡ true = search rules in
    record {
      reads = counted_more _ c.reads.done _ (feed (g.S.Read.remaining c.reads.self.source) (so_far c.reads.self.lines)) _ c.reads.invariant.reads
          (record { wanted = wanted; piece = c.in_ok-read_once.ensures.reads });
      waits = c.in_ok-read_once.ensures.waits ∙ c.reads.invariant.waits;
    }
