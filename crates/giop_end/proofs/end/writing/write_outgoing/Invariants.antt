use Rattle.std.proofs.Common.{length}
use Rattle.giop_end.specs.Pumping.{Writes}
use Rattle.giop_end.proofs.end.writing.write_outgoing.Given as goal

abbrev pub invariant-parts : goal.invariant-parts
invariant-parts g l = Writes (g.W.Write.contents l.fn.writer) (g.W.Write.contents l.writer) l.fn.outgoing l.outgoing

abbrev pub decreases-parts : goal.decreases-parts
decreases-parts g l = length l.outgoing
