use Rattle.std.proofs.Common.{ap}
use Rattle.giop_commands.specs.Session.Acts.{outbox}
use Rattle.giop_commands.proofs.session.sending.send_piece.Goals as goal

pub returns-clause-sent : goal.returns-clause-sent
returns-clause-sent g c = record {
  failed = λ why stands. let was = c.send.ensures.failed why stands in (was.0, ap (λ e. outbox e.calls e.outgoing) was.1);
  puts = c.send.ensures.sent;
}
