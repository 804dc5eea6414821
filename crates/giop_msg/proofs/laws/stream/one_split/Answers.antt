use Rattle.giop_msg.proofs.StreamLemmas.{same_splits}
use Rattle.giop_msg.proofs.laws.stream.one_split.Goals as goal

pub returns : goal.returns
returns c = same_splits
