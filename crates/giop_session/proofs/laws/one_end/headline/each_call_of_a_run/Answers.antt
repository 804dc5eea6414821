use Rattle.giop_session.proofs.OnRuns.EventLemmas.{each_follows}
use Rattle.giop_end.specs.Hearing.Heard.{side_by}
use Rattle.giop_session.proofs.laws.one_end.headline.each_call_of_a_run.Goals as goal

pub returns : goal.returns
returns g c = λ interface h k events met id.
    each_follows (side_by g.R.CallRule.next g.R.CallRule.closed g.R.Side.gathering g.R.Hearing.in_call g.R.Hearing.breaks (g.R.Hearing.act_by interface))
    h k events id met
