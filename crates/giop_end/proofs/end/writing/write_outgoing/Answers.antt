use Rattle.std.proofs.Common.{take, sym, subst}
use Rattle.std.specs.Io.KnownBytes.{Appends}
use Rattle.giop_end.specs.Pumping.{Writes}
use Rattle.giop_end.proofs.PumpingLemmas.{writes_more}
use Rattle.giop_end.proofs.end.writing.write_outgoing.Goals as goal

pub parts-preserved : goal.parts-preserved
parts-preserved g c =
    let before = g.W.Write.contents c.parts.writer in
    let after = g.W.Write.contents c.write.new.self in
    let given : Appends before after (take c.in_ok-n.n c.parts.outgoing) =
    subst (λ part. Appends before after (take c.in_ok-n.n part)) c.as_slice-in-parts.ensures c.in_ok-n.ensures.bytes in
    subst (λ out. Writes (g.W.Write.contents c.args.writer.now) after c.args.outgoing.now out) (sym c.wrote.ensures)
    (writes_more (g.W.Write.contents c.args.writer.now) before after c.args.outgoing.now c.parts.outgoing c.in_ok-n.n c.parts.invariant given)
