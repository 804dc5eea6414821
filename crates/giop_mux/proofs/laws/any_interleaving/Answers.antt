use Rattle.std.proofs.Common.{sym, ap, ◌∙◌}
use Rattle.std.specs.FinMap as finite
use Rattle.giop_ids.specs.Runs.{alone, told_alone}
use Rattle.giop_ids.proofs.Puts.{same_tables}
use Rattle.giop_mux.specs.Runs.{turn}
use Rattle.giop_mux.proofs.RunLemmas.{run_alone}
use Rattle.giop_mux.proofs.laws.any_interleaving.Goals as goal

pub returns-clause-value : goal.returns-clause-value
returns-clause-value g c = λ limit m n n' one other results results' run run' free free' same. same_tables n n' (λ id.
    let next = g.R.CallRule.next c.args.rule.now in
    let closed = g.R.CallRule.closed c.args.rule.now in
    (run_alone next closed limit m n one results id run (free id)).0
    ∙ ap (alone (turn next closed) (finite.get m id)) (same id)
    ∙ sym (run_alone next closed limit m n' other results' id run' (free' id)).0)

pub returns-clause-told : goal.returns-clause-told
returns-clause-told g c = λ limit m n n' one other results results' run run' free free' same id.
    let next = g.R.CallRule.next c.args.rule.now in
    let closed = g.R.CallRule.closed c.args.rule.now in
    (run_alone next closed limit m n one results id run (free id)).1
    ∙ ap (told_alone (turn next closed) (finite.get m id)) (same id)
    ∙ sym (run_alone next closed limit m n' other results' id run' (free' id)).1
