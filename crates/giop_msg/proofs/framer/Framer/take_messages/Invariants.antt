use Rattle.std.proofs.Common.{length}
use Rattle.giop_msg.specs.Stream.{AppendsTaken}
use Rattle.giop_msg.proofs.framer.Framer.take_messages.Given as goal

abbrev pub invariant-loop-message : goal.invariant-loop-message
invariant-loop-message l = AppendsTaken l.initial.self l.initial.messages.items l.self l.messages.items

abbrev pub decreases-loop-message : goal.decreases-loop-message
decreases-loop-message l = length l.self.octets
