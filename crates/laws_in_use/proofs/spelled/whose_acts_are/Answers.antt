use Rattle.std.proofs.Common.{◌≡◌, true, false, inl, inr, refl}
use Rattle.giop_mux.specs.Runs.{Hears, IsTaken}
use Rattle.giop_calls.specs.ServerItems as server_said
use Rattle.giop_calls.specs.declared.client.event.ClientEvent.TheVariants as at_client
use Rattle.giop_calls.specs.declared.server.event.ServerEvent.TheVariants as event
use Rattle.laws_in_use.proofs.spelled.whose_acts_are.Goals as goal

pub returns-clause-take : goal.returns-clause-take
returns-clause-take c = λ heard.
    let wrong : server_said.is_own IsTaken ≡ false = (c.acts_are_own_or_heard.ensures.server IsTaken).1 (inl heard) in absurd cc

pub returns-clause-cancel : goal.returns-clause-cancel
returns-clause-cancel c = (c.acts_are_own_or_heard.ensures.server (Hears event.Cancel)).1 (inr refl)

pub returns-clause-fragment : goal.returns-clause-fragment
returns-clause-fragment c =
    (c.acts_are_own_or_heard.ensures.client (Hears (at_client.More true))).1 (inr (inr (inl (true, refl))))
