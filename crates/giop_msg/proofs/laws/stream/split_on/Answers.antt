use Rattle.giop_msg.proofs.StreamLemmas.{split_goes_on}
use Rattle.giop_msg.proofs.laws.stream.split_on.Goals as goal

pub returns : goal.returns
returns c = split_goes_on
