use Rattle.std.proofs.Common.{◌≡◌}
use Rattle.std.specs.Io.KnownBytes.{Keeps}
use Rattle.giop_tracing.specs.Trace.Incoming.{unheard}
use Rattle.giop_tracing.proofs.trace.incoming.Incoming.next.Given as goal

abbrev pub invariant-pieces : goal.invariant-pieces
invariant-pieces g l = record {
  limit : l.self.framer.limit ≡ l.fn.self.framer.limit;
  octets : Keeps (unheard l.fn.self.framer (g.R.Read.remaining l.fn.reader)) (unheard l.self.framer (g.R.Read.remaining l.reader));
  text : Keeps (g.W.Write.contents l.fn.writer) (g.W.Write.contents l.writer);
}
