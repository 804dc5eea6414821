use Rattle.giop_msg.proofs.SplitLemmas.{every_split}
use Rattle.giop_msg.proofs.laws.stream.every_stream_splits.Goals as goal

pub returns : goal.returns
returns c = every_split
