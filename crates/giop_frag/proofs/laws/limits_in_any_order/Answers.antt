use Rattle.giop_frag.proofs.RunLemmas.{never_full}
use Rattle.giop_frag.proofs.laws.limits_in_any_order.Goals as goal

pub returns : goal.returns
returns c = never_full
