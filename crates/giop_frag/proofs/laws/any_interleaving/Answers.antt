use Rattle.std.proofs.Common.{sym, ap, ◌∙◌}
use Rattle.std.specs.FinMap as map
use Rattle.giop_ids.specs.Runs.{alone, told_alone}
use Rattle.giop_ids.proofs.Puts.{same_tables}
use Rattle.giop_frag.specs.Runs.{turn}
use Rattle.giop_frag.proofs.RunLemmas.{run_alone}
use Rattle.giop_frag.proofs.laws.any_interleaving.Goals as goal

pub returns-clause-value : goal.returns-clause-value
returns-clause-value c = λ limit m n n' one other results results' run run' free free' same. same_tables n n' (λ id.
    (run_alone limit m n one results id run (free id)).0
    ∙ ap (alone turn (map.get m id)) (same id)
    ∙ sym (run_alone limit m n' other results' id run' (free' id)).0)

pub returns-clause-told : goal.returns-clause-told
returns-clause-told c = λ limit m n n' one other results results' run run' free free' same id.
    (run_alone limit m n one results id run (free id)).1
    ∙ ap (told_alone turn (map.get m id)) (same id)
    ∙ sym (run_alone limit m n' other results' id run' (free' id)).1
