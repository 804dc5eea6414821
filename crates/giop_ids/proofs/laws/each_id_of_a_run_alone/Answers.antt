use Rattle.giop_ids.proofs.RunLemmas.{at-run}
use Rattle.giop_ids.proofs.laws.each_id_of_a_run_alone.Goals as goal

pub returns-clause-value : goal.returns-clause-value
returns-clause-value g c = λ rules of_id apart told_apart s t acts results id run free.
    (at-run rules apart of_id told_apart s t acts results id run free).0

pub returns-clause-told : goal.returns-clause-told
returns-clause-told g c = λ rules of_id apart told_apart s t acts results id run free.
    (at-run rules apart of_id told_apart s t acts results id run free).1
