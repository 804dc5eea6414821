use Rattle.giop_session.specs.Runs.ServerRuns.{server_run}
use Rattle.giop_session.proofs.OnSides.KeptApart.{held_stands}
use Rattle.giop_session.proofs.OnSides.ServerRunIs.{server_run_is}
use Rattle.giop_session.proofs.laws.one_end.standing.entries_stand_at_server.Goals as goal

pub returns : goal.returns
returns c = λ interface limits. held_stands (server_run interface) (server_run_is interface) limits c.server_entry_stands.ensures.value
