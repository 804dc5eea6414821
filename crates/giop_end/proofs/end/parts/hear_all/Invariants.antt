use Rattle.std.proofs.Common.{length}
use Rattle.giop_end.specs.Hearing.Heard.{hears_by}
use Rattle.giop_end.proofs.OnHearing.FeedingLemmas.{SoFar}
use Rattle.giop_end.proofs.end.parts.hear_all.Given as goal

abbrev pub invariant-loop-message : goal.invariant-loop-message
invariant-loop-message g l =
    SoFar (hears_by g.R.CallRule.next g.R.CallRule.closed g.R.Side.gathering g.R.Hearing.in_call g.R.Hearing.breaks (g.R.Hearing.act_by l.fn.interface))
    l.initial.framer l.initial.calls l.framer l.calls

abbrev pub decreases-loop-message : goal.decreases-loop-message
decreases-loop-message g l = length l.framer.octets
