use Rattle.giop_frag.proofs.RunLemmas.{total_within}
use Rattle.giop_frag.proofs.laws.total_stays_within.Goals as goal

pub returns : goal.returns
returns c = total_within
