use Rattle.std.proofs.Common.{sym, ap, ◌∙◌}
use Rattle.giop_ids.specs.Runs.{alone, told_alone}
use Rattle.giop_ids.proofs.RunLemmas.{at-all_after, own-all_told}
use Rattle.giop_ids.proofs.laws.any_interleaving.Goals as goal

pub returns-clause-value : goal.returns-clause-value
returns-clause-value g c = λ rules apart s one other same id.
    at-all_after rules apart s one id ∙ ap (alone rules.turn (rules.at s id)) (same id) ∙ sym (at-all_after rules apart s other id)

pub returns-clause-told : goal.returns-clause-told
returns-clause-told g c = λ rules apart s one other same id.
    own-all_told rules apart s one id ∙ ap (told_alone rules.turn (rules.at s id)) (same id) ∙ sym (own-all_told rules apart s other id)
