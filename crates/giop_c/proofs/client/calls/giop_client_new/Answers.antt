use Rattle.std.proofs.Common.{Some, ap, subst, sym, ◌∙◌}
use Rattle.giop_c.specs.Client.Ends.{OpensClient}
use Rattle.giop_c.proofs.client.calls.giop_client_new.Goals as goal

pub returns-clause-opens : goal.returns-clause-opens
returns-clause-opens c =
    subst (λ held. OpensClient held c.args.limits.now c.args.client.now.value c.open-status.new.client.value c.open-status.result)
    (ap Some c.deref.ensures ∙ sym c.in-Some.ensures.held) c.open-status.ensures
