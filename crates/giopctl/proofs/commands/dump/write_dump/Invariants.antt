use Rattle.std.proofs.Common.{◌≡◌, ℕ, ◌+◌, ◌*◌, List, length}
use Rattle.giop_msg.specs.declared.msg.Msg.{Msg}
use Rattle.giopctl.proofs.DumpLemmas.{Shown}
use Rattle.giopctl.proofs.commands.dump.write_dump.Given as goal

abbrev pub invariant-messages : goal.invariant-messages
invariant-messages g l =
    (messages : List Msg)
    × Shown 1048576 l.octets (g.W.Write.contents l.fn.writer) (g.W.Write.contents l.writer) l.framer.octets l.left l.at messages
    × (l.framer.limit ≡ 1048576)

abbrev pub decreases-messages : goal.decreases-messages
decreases-messages g l = length l.framer.octets + 2 * length l.left
