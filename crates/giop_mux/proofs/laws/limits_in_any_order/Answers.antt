use Rattle.giop_mux.proofs.RunLemmas.{never_too_many}
use Rattle.giop_mux.proofs.laws.limits_in_any_order.Goals as goal

pub returns : goal.returns
returns g c = never_too_many (g.R.CallRule.next c.args.rule.now) (g.R.CallRule.closed c.args.rule.now)
