use Rattle.giop_mux.proofs.RunLemmas.{run_alone}
use Rattle.giop_mux.proofs.laws.each_call_alone.Goals as goal

pub returns-clause-value : goal.returns-clause-value
returns-clause-value g c = λ limit m n acts results id run free.
    (run_alone (g.R.CallRule.next c.args.rule.now) (g.R.CallRule.closed c.args.rule.now) limit m n acts results id run free).0

pub returns-clause-told : goal.returns-clause-told
returns-clause-told g c = λ limit m n acts results id run free.
    (run_alone (g.R.CallRule.next c.args.rule.now) (g.R.CallRule.closed c.args.rule.now) limit m n acts results id run free).1
