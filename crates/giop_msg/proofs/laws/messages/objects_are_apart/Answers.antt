use Rattle.giop_msg.proofs.WholeMessages.ObjectLemmas.{objects_apart}
use Rattle.giop_msg.proofs.laws.messages.objects_are_apart.Goals as goal

pub returns : goal.returns
returns c = objects_apart
