use Rattle.std.proofs.Common.{length}
use Rattle.giop_msg.proofs.CutLemmas.{GoesOn}
use Rattle.giop_msg.proofs.cutting.append_fragments.Given as goal

abbrev pub invariant-loop-left : goal.invariant-loop-left
invariant-loop-left l = GoesOn l.order l.id l.piece l.octets l.left l.fn.messages.items l.messages.items

abbrev pub decreases-loop-left : goal.decreases-loop-left
decreases-loop-left l = length l.left
