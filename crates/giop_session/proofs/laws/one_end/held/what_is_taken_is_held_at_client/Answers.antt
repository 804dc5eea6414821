use Rattle.giop_session.specs.Runs.ClientRuns.{client_run}
use Rattle.giop_session.proofs.OnSides.KeptApart.{some_held}
use Rattle.giop_session.proofs.OnSides.ClientRunIs.{client_run_is}
use Rattle.giop_session.proofs.laws.one_end.held.what_is_taken_is_held_at_client.Goals as goal

pub returns : goal.returns
returns c = λ interface. some_held (client_run interface) (client_run_is interface)
