use Rattle.std.proofs.Common.{ℕ, List, ◌++◌}
use Rattle.giop_msg.specs.declared.msg.Msg.{Msg}
use Rattle.giop_tracing.specs.Trace.Incoming.{unheard}
use Rattle.giop_tracing.specs.Trace.Loops.{SameForm, waiting}
use Rattle.giop_tracing.specs.Trace.Text.{AreMessages}
use Rattle.giop_tracing.proofs.TraceLemmas.{AlongBoth}
use Rattle.giop_tracing.proofs.trace.hear_both.Given as goal

abbrev pub invariant-messages : goal.invariant-messages
invariant-messages g l = record {
  same : SameForm l.fn.tracing l.tracing;
  along :
      (asked answered : List Msg) (rest left_over : List ℕ)
      → AreMessages l.fn.tracing.client.framer.limit (unheard l.fn.tracing.client.framer (g.C.Read.remaining l.fn.client)) asked rest
      → AreMessages l.fn.tracing.client.framer.limit (unheard l.fn.tracing.server.framer (g.S.Read.remaining l.fn.server)) answered left_over
      → AlongBoth l.fn.tracing.form l.interface l.fn.tracing.client.framer.limit l.fn.tracing.observer.calls.entries
      l.tracing.observer.calls.entries (g.W.Write.contents l.fn.writer) (g.W.Write.contents l.writer)
      (unheard l.tracing.client.framer (g.C.Read.remaining l.client)) (unheard l.tracing.server.framer (g.S.Read.remaining l.server))
      (waiting l.tracing.held) asked (waiting l.fn.tracing.held ++ answered) rest left_over;
}
