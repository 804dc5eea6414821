use Rattle.giop_session.proofs.OnActs.ActingLemmas.{accepted, refused}
use Rattle.giop_session.proofs.laws.one_end.acting.what_an_own_act_leaves.Goals as goal

pub returns-clause-accepted : goal.returns-clause-accepted
returns-clause-accepted g c = λ of_rule id planned h k out out' on_call.
    accepted (g.R.CallRule.next c.args.rule.now) (g.R.CallRule.closed c.args.rule.now) g.R.Side.gathering of_rule id planned h out k out' on_call

pub returns-clause-refused : goal.returns-clause-refused
returns-clause-refused g c = λ of_rule id planned h k out out' why on_call.
    refused (g.R.CallRule.next c.args.rule.now) (g.R.CallRule.closed c.args.rule.now) g.R.Side.gathering of_rule id planned h out why k out' on_call
