use Rattle.std.proofs.Common.{ap}
use Rattle.giop_commands.specs.Session.Acts.{outbox}
use Rattle.giop_commands.proofs.OnSession.ActLemmas.{acts_told}
use Rattle.giop_calling.proofs.call.locating.locate_one.Goals as goal

pub returns-clause-locates : goal.returns-clause-locates
returns-clause-locates c =
    acts_told _ _ _ _ _ _ _ _ c.locate.result c.told_of.result
    (λ why stands. let was = c.locate.ensures.failed why stands in (was.0, ap (λ e. outbox e.calls e.outgoing) was.1))
    (rw (c.in_ok-request.ensures, c.requires) at c.locate.ensures.located) c.told_of.ensures.ok
