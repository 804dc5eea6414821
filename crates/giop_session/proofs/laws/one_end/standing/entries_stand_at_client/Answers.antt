use Rattle.giop_session.specs.Runs.ClientRuns.{client_run}
use Rattle.giop_session.proofs.OnSides.KeptApart.{held_stands}
use Rattle.giop_session.proofs.OnSides.ClientRunIs.{client_run_is}
use Rattle.giop_session.proofs.laws.one_end.standing.entries_stand_at_client.Goals as goal

pub returns : goal.returns
returns c = λ interface limits. held_stands (client_run interface) (client_run_is interface) limits c.client_entry_stands.ensures.value
