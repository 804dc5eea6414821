use Rattle.giop_msg.proofs.CutLemmas.{CutLaws-hold}
use Rattle.giop_msg.proofs.laws.stream.cuts_are_undone.Goals as goal

pub returns : goal.returns
returns c = CutLaws-hold
