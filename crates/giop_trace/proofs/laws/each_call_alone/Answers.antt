use Rattle.giop_trace.proofs.AloneLemmas.{all_alone}
use Rattle.giop_trace.proofs.laws.each_call_alone.Goals as goal

pub returns : goal.returns
returns c = λ alone flows all id. all_alone alone flows all id
