use Rattle.std.proofs.Common.{sym, ap, ◌∙◌}
use Rattle.giop_ids.specs.Runs.{alone}
use Rattle.giop_ids.proofs.RunLemmas.{at-run}
use Rattle.giop_table.specs.CallTable.{at, is_of_call, rules_of, turn}
use Rattle.giop_table.proofs.TableLemmas.{table_apart, told_apart}
use Rattle.giop_session.proofs.laws.any_interleaving.Goals as goal

pub returns : goal.returns
returns g c = λ h k k' one other results results' (run, free) (run', free') same id.
    let next = g.R.CallRule.next c.args.rule.now in
    let closed = g.R.CallRule.closed c.args.rule.now in
    let rules = rules_of next closed g.R.Side.gathering in
    let apart = table_apart next closed g.R.Side.gathering in
    let told = told_apart next closed g.R.Side.gathering in
    (at-run rules apart is_of_call told h k one results id run (free id)).0
    ∙ ap (alone (turn next closed g.R.Side.gathering) (at h id)) (same id)
    ∙ sym (at-run rules apart is_of_call told h k' other results' id run' (free' id)).0
