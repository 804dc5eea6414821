use Rattle.std.proofs.Common.{ap}
use Rattle.giop_commands.specs.Session.Acts.{outbox}
use Rattle.giop_commands.proofs.OnSession.ActLemmas.{acts_told}
use Rattle.giop_calling.proofs.call.call_one.Goals as goal

pub returns-clause-calls : goal.returns-clause-calls
returns-clause-calls c =
    acts_told _ _ _ _ _ _ _ _ c.call.result c.told_of.result
    (λ why stands. let was = c.call.ensures.failed why stands in (was.0, ap (λ e. outbox e.calls e.outgoing) was.1))
    (rw (c.in_ok-request.ensures, c.requires.interface, c.requires.limits) at c.call.ensures.called) c.told_of.ensures.ok
