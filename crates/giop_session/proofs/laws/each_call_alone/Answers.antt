use Rattle.giop_ids.proofs.RunLemmas.{at-run}
use Rattle.giop_table.specs.CallTable.{is_of_call, rules_of}
use Rattle.giop_table.proofs.TableLemmas.{table_apart, told_apart}
use Rattle.giop_session.proofs.laws.each_call_alone.Goals as goal

pub returns-clause-value : goal.returns-clause-value
returns-clause-value g c = λ h k acts results id run free.
    let next = g.R.CallRule.next c.args.rule.now in
    let closed = g.R.CallRule.closed c.args.rule.now in
    (at-run (rules_of next closed g.R.Side.gathering) (table_apart next closed g.R.Side.gathering) is_of_call
    (told_apart next closed g.R.Side.gathering) h k acts results id run free).0

pub returns-clause-told : goal.returns-clause-told
returns-clause-told g c = λ h k acts results id run free.
    let next = g.R.CallRule.next c.args.rule.now in
    let closed = g.R.CallRule.closed c.args.rule.now in
    (at-run (rules_of next closed g.R.Side.gathering) (table_apart next closed g.R.Side.gathering) is_of_call
    (told_apart next closed g.R.Side.gathering) h k acts results id run free).1
