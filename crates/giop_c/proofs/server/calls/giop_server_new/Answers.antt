use Rattle.std.proofs.Common.{Some, ap, subst, sym, ◌∙◌}
use Rattle.giop_c.specs.Server.Ends.{OpensServer}
use Rattle.giop_c.proofs.server.calls.giop_server_new.Goals as goal

pub returns-clause-opens : goal.returns-clause-opens
returns-clause-opens c =
    subst (λ held. OpensServer held c.args.limits.now c.args.server.now.value c.open-status.new.server.value c.open-status.result)
    (ap Some c.deref.ensures ∙ sym c.in-Some.ensures.held) c.open-status.ensures
