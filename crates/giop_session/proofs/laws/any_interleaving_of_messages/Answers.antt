use Rattle.std.proofs.Common.{sym, ap, ◌∙◌}
use Rattle.giop_session.specs.Runs.Alone.{alone_heard}
use Rattle.giop_table.specs.CallTable.{at, turn}
use Rattle.giop_session.proofs.OnRuns.HeardAlone.{calls_alone}
use Rattle.giop_end.specs.Hearing.Heard.{side_by}
use Rattle.giop_session.proofs.laws.any_interleaving_of_messages.Goals as goal

pub returns : goal.returns
returns g c = λ interface h k k' one other heard heard' same id.
    let alone = calls_alone (side_by g.R.CallRule.next g.R.CallRule.closed g.R.Side.gathering g.R.Hearing.in_call g.R.Hearing.breaks
    (g.R.Hearing.act_by interface)) in
    alone h k one id heard
    ∙ ap (alone_heard (turn (g.R.CallRule.next h.rule) (g.R.CallRule.closed h.rule) g.R.Side.gathering) (g.R.Hearing.act_by interface) (at h id)) (same id)
    ∙ sym (alone h k' other id heard')
