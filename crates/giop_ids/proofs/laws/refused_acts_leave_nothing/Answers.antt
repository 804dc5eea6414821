use Rattle.giop_ids.proofs.RunLemmas.{leaves_accepted}
use Rattle.giop_ids.proofs.laws.refused_acts_leave_nothing.Goals as goal

pub returns : goal.returns
returns g c = leaves_accepted
