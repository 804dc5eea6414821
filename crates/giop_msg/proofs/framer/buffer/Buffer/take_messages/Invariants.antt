use Rattle.std.proofs.Common.{length}
use Rattle.giop_msg.specs.Stream.{AppendsTaken}
use Rattle.giop_msg.proofs.framer.buffer.Buffer.take_messages.Given as goal

abbrev pub invariant-loop-found : goal.invariant-loop-found
invariant-loop-found l = AppendsTaken l.initial.self l.initial.messages.items l.self l.messages.items

abbrev pub decreases-loop-found : goal.decreases-loop-found
decreases-loop-found l = length l.self.octets
