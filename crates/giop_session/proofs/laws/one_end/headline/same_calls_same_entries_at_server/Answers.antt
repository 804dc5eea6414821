use Rattle.giop_session.specs.Runs.ServerRuns.{server_run}
use Rattle.giop_session.proofs.OnSides.KeptApart.{entries, same_entries}
use Rattle.giop_session.proofs.OnSides.ServerRunIs.{server_run_is}
use Rattle.giop_session.proofs.laws.one_end.headline.same_calls_same_entries_at_server.Goals as goal

pub returns-clause-value : goal.returns-clause-value
returns-clause-value c = λ interface limits acts calls k (takes, holds).
    entries (server_run interface) (server_run_is interface) limits acts takes.0 k calls takes.1 holds

pub returns-clause-same : goal.returns-clause-same
returns-clause-same c = λ interface. same_entries (server_run interface) (server_run_is interface)
