use Rattle.giop_ids.proofs.RunLemmas.{Runs-append}
use Rattle.giop_ids.proofs.laws.runs_go_on.Goals as goal

pub returns : goal.returns
returns g c = Runs-append
