use Rattle.giop_ids.proofs.RunLemmas.{at-all_after, own-all_told}
use Rattle.giop_ids.proofs.laws.each_id_alone.Goals as goal

pub returns-clause-value : goal.returns-clause-value
returns-clause-value g c = at-all_after

pub returns-clause-told : goal.returns-clause-told
returns-clause-told g c = own-all_told
