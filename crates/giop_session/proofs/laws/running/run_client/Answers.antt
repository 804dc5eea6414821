use Rattle.std.proofs.Common.{◌≡◌}
use Rattle.giop_end.specs.Ends.View.{state_of}
use Rattle.giop_end.specs.Hearing.ClientHears.{client_side}
use Rattle.giop_end.specs.Ends.Begun.{end_state}
use Rattle.giop_session.specs.Runs.ClientRuns.{client_deed, client_run}
use Rattle.giop_session.specs.Runs.SideRuns.{SideRuns}
use Rattle.giop_session.proofs.OnActs.SidesPutOut.{client_puts_out}
use Rattle.giop_session.proofs.OnSides.KeptApart.{kept_apart}
use Rattle.giop_session.proofs.OnRuns.SeenLemmas.{run_seen}
use Rattle.giop_session.proofs.OnSides.ClientRunIs.{client_run_is}
use Rattle.giop_session.proofs.laws.running.run_client.Goals as goal

-- the run, as one of the end's view
seen : (c : goal.In_ok-answers)
    → ((c.take_all.new.driven.interface.now ≡ c.args.interface.now) × (c.take_all.new.driven.limits ≡ c.args.limits))
    × SideRuns (client_run c.args.interface.now) c.args.limits c.args.inputs.items c.in_ok-answers.answers.items (state_of c.take_all.new.driven)
seen c =
    let new = c.new-client.ensures in
    run_seen client_side client_deed c.args.interface.now c.args.limits (record {}) c.new-client.result c.take_all.new.driven
    c.args.inputs.items c.in_ok-answers.answers.items new.interface new.limits
    (λ i. end_state (new.unread i) (new.calls i) (new.outgoing i) (new.fault i)) c.in_ok-answers.ensures

pub returns-clause-value : goal.returns-clause-value
returns-clause-value c = (seen c).1

pub returns-clause-same : goal.returns-clause-same
returns-clause-same c = (seen c).0

pub returns-clause-apart : goal.returns-clause-apart
returns-clause-apart c =
    kept_apart (client_run c.args.interface.now) (client_run_is c.args.interface.now) c.args.limits
    c.args.inputs.items c.in_ok-answers.answers.items (state_of c.take_all.new.driven) (seen c).1

pub returns-clause-put_out : goal.returns-clause-put_out
returns-clause-put_out c =
    client_puts_out c.args.interface.now c.args.limits c.args.inputs.items c.in_ok-answers.answers.items
    (state_of c.take_all.new.driven) (seen c).1
