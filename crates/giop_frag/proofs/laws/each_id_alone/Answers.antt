use Rattle.giop_frag.proofs.RunLemmas.{run_alone}
use Rattle.giop_frag.proofs.laws.each_id_alone.Goals as goal

pub returns-clause-value : goal.returns-clause-value
returns-clause-value c = λ limit m n acts results id run free. (run_alone limit m n acts results id run free).0

pub returns-clause-told : goal.returns-clause-told
returns-clause-told c = λ limit m n acts results id run free. (run_alone limit m n acts results id run free).1
