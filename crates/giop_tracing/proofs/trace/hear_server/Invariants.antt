use Rattle.std.proofs.Common.{◌≡◌, ℕ, List, ◌++◌}
use Rattle.giop_msg.specs.declared.msg.Msg.{Msg}
use Rattle.giop_tracing.specs.Trace.Incoming.{unheard}
use Rattle.giop_tracing.specs.Trace.Loops.{SameForm, waiting}
use Rattle.giop_tracing.specs.Trace.Text.{AreMessages, server_turn}
use Rattle.giop_tracing.proofs.TraceLemmas.{Along}
use Rattle.giop_tracing.proofs.trace.hear_server.Given as goal

abbrev pub invariant-messages : goal.invariant-messages
invariant-messages g l = record {
  client : l.tracing.client ≡ l.fn.tracing.client;
  same : SameForm l.fn.tracing l.tracing;
  along :
      (messages : List Msg) (rest : List ℕ)
      → AreMessages l.fn.tracing.server.framer.limit (unheard l.fn.tracing.server.framer (g.S.Read.remaining l.fn.server)) messages rest
      → Along (server_turn l.fn.tracing.form l.interface l.waits) l.fn.tracing.server.framer.limit l.fn.tracing.observer.calls.entries
      l.tracing.observer.calls.entries (g.W.Write.contents l.fn.writer) (g.W.Write.contents l.writer)
      (unheard l.tracing.server.framer (g.S.Read.remaining l.server)) (waiting l.tracing.held) (waiting l.fn.tracing.held ++ messages) rest;
}
