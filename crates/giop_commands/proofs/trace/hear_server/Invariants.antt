use Rattle.std.proofs.Common.{◌≡◌}
use Rattle.giop_commands.proofs.trace.hear_server.Given as goal

abbrev pub invariant-messages : goal.invariant-messages
invariant-messages g l = l.tracing.client ≡ l.fn.tracing.client
