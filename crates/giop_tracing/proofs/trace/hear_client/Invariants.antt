use Rattle.std.proofs.Common.{ℕ, List, []}
use Rattle.giop_msg.specs.declared.msg.Msg.{Msg}
use Rattle.giop_tracing.specs.Trace.Incoming.{unheard}
use Rattle.giop_tracing.specs.Trace.Loops.{SameForm}
use Rattle.giop_tracing.specs.Trace.Text.{AreMessages, client_turn}
use Rattle.giop_tracing.proofs.TraceLemmas.{Along}
use Rattle.giop_tracing.proofs.trace.hear_client.Given as goal

abbrev pub invariant-messages : goal.invariant-messages
invariant-messages g l = record {
  same : SameForm l.fn.tracing l.tracing;
  along :
      (messages : List Msg) (rest : List ℕ)
      → AreMessages l.fn.tracing.client.framer.limit (unheard l.fn.tracing.client.framer (g.C.Read.remaining l.fn.client)) messages rest
      → Along (client_turn l.fn.tracing.form l.interface) l.fn.tracing.client.framer.limit l.fn.tracing.observer.calls.entries
      l.tracing.observer.calls.entries (g.W.Write.contents l.fn.writer) (g.W.Write.contents l.writer)
      (unheard l.tracing.client.framer (g.C.Read.remaining l.client)) [] messages rest;
}
