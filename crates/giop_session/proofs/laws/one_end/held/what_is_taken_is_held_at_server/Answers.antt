use Rattle.giop_session.specs.Runs.ServerRuns.{server_run}
use Rattle.giop_session.proofs.OnSides.KeptApart.{some_held}
use Rattle.giop_session.proofs.OnSides.ServerRunIs.{server_run_is}
use Rattle.giop_session.proofs.laws.one_end.held.what_is_taken_is_held_at_server.Goals as goal

pub returns : goal.returns
returns c = λ interface. some_held (server_run interface) (server_run_is interface)
