use Rattle.giop_end.specs.Hearing.Heard.{hears_by}
use Rattle.giop_end.proofs.OnHearing.FeedingLemmas.{fed_in_turn}
use Rattle.giop_session.proofs.laws.any_reads.Goals as goal

pub returns : goal.returns
returns g c = λ interface unread left last h mid k more result first second.
    fed_in_turn (hears_by g.R.CallRule.next g.R.CallRule.closed g.R.Side.gathering g.R.Hearing.in_call g.R.Hearing.breaks (g.R.Hearing.act_by interface))
    unread left last h mid k more result first second
