use Rattle.std.proofs.Common.{rules, not}
use Rattle.std.proofs.lemmas.Fn.{filter_same}
use Rattle.giop_commands.specs.Session.Streaming.{ended_at}
use Rattle.giop_commands.proofs.session.ending.open_ids.Goals as goal

pub returns : goal.returns
returns g c =
    let is = filter_same _ (λ id. not (ended_at (g.R.CallRule.closed c.args.end.now.calls.rule) c.args.end.now.calls.table id)) _
    (λ x b f' k. search rules) _ _ c.retain.ensures.filtered in
    rw (← c.in_ok-ids.ensures) is
