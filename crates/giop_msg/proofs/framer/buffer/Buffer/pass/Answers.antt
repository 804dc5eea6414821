use Rattle.std.proofs.Common.{ap, length, arith}
use Rattle.giop_msg.specs.Stream.{Unread}
use Rattle.giop_msg.proofs.FramerLemmas.{message_fits}
use Rattle.giop_msg.proofs.framer.buffer.Buffer.pass.Goals as goal

pub advance-requires : goal.advance-requires
advance-requires c =
    let fits = message_fits _ _ _ c.requires.1 in
    let same = ap (λ (u : Unread). length u.octets) c.self.view_is in
    omega (arith, c.len.ensures, fits, same)
