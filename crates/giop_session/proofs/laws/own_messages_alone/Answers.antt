use Rattle.giop_session.proofs.OnRuns.HeardAlone.{calls_alone}
use Rattle.giop_end.specs.Hearing.Heard.{side_by}
use Rattle.giop_session.proofs.laws.own_messages_alone.Goals as goal

pub returns : goal.returns
returns g c = λ interface h k messages id through.
    calls_alone (side_by g.R.CallRule.next g.R.CallRule.closed g.R.Side.gathering g.R.Hearing.in_call g.R.Hearing.breaks (g.R.Hearing.act_by interface))
    h k messages id through
