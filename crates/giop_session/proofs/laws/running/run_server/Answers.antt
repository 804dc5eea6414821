use Rattle.std.proofs.Common.{◌≡◌}
use Rattle.giop_session.specs.Calls.Begun.{no_calls}
use Rattle.giop_session.specs.Ends.View.{state_of}
use Rattle.giop_session.specs.Runs.Driven.{end_state, new_end}
use Rattle.giop_session.specs.Runs.Inputs.{nothing_unread}
use Rattle.giop_session.specs.Hearing.ServerHears.{server_side}
use Rattle.giop_session.specs.Runs.ServerRuns.{ServerRuns, server_deed}
use Rattle.giop_session.proofs.OnRuns.ServerAloneLemmas.{server_fits, server_said}
use Rattle.giop_session.proofs.OnRuns.DrivenLemmas.{run_taken, taken_takes}
use Rattle.giop_session.proofs.OnRuns.SeenLemmas.{run_seen}
use Rattle.giop_session.proofs.OnActs.SidesPutOut.{server_puts_out}
use Rattle.giop_session.proofs.OnItems.ServerHeadline.{server_answers, server_entries}
use Rattle.giop_session.proofs.OnLimits.ServerRunLimitLemmas.{server_run_free}
use Rattle.giop_session.proofs.laws.running.run_server.Goals as goal

-- the run, as one of the end's view
seen : (c : goal.In_ok-answers)
    → ((c.take_all.new.driven.interface.now ≡ c.args.interface.now) × (c.take_all.new.driven.limits ≡ c.args.limits))
    × ServerRuns c.args.interface.now c.args.limits c.args.inputs.items c.in_ok-answers.answers.items (state_of c.take_all.new.driven)
seen c =
    let new = c.new-server.ensures in
    run_seen server_side server_deed c.args.interface.now c.args.limits (record {}) c.new-server.result c.take_all.new.driven
    c.args.inputs.items c.in_ok-answers.answers.items new.interface new.limits
    (λ i. end_state (new.unread i) (new.calls i) (new.outgoing i) (new.fault i)) c.in_ok-answers.ensures

pub returns-clause-value : goal.returns-clause-value
returns-clause-value c = (seen c).1

pub returns-clause-same : goal.returns-clause-same
returns-clause-same c = (seen c).0

pub returns-clause-taken : goal.returns-clause-taken
returns-clause-taken c = λ none sound.
    run_taken (server_side c.args.interface.now)
    (server_deed c.args.interface.now c.args.limits) (new_end (record {}) c.args.limits)
    (state_of c.take_all.new.driven)
    c.args.inputs.items c.in_ok-answers.answers.items (seen c).1 none sound

pub returns-clause-table : goal.returns-clause-table
returns-clause-table c = λ items holds id.
    server_entries c.args.interface.now c.args.limits holds.acts c.take_all.new.driven.framer c.take_all.new.driven.calls items
    (taken_takes (server_side c.args.interface.now)
    (server_deed c.args.interface.now c.args.limits) (nothing_unread c.args.limits.message) c.take_all.new.driven.framer
    (no_calls (record {}) c.args.limits) c.take_all.new.driven.calls c.args.inputs.items c.in_ok-answers.answers.items holds.acts holds.taken)
    holds.holds id

pub returns-clause-answers : goal.returns-clause-answers
returns-clause-answers c = λ items holds id.
    server_answers c.args.interface.now c.args.limits c.args.inputs.items c.in_ok-answers.answers.items c.take_all.new.driven.framer
    c.take_all.new.driven.calls items holds id

pub returns-clause-within : goal.returns-clause-within
returns-clause-within c = λ given.
    server_run_free c.args.interface.now c.args.limits c.args.inputs.items c.in_ok-answers.answers.items
    (state_of c.take_all.new.driven)
    given (seen c).1

-- what fits the end is refused nothing
pub returns-clause-fits : goal.returns-clause-fits
returns-clause-fits c = λ fits.
    let found = server_fits c.args.interface.now c.args.limits c.args.inputs.items c.in_ok-answers.answers.items
    (state_of c.take_all.new.driven) fits (seen c).1 in
    (found.0, found.1)

pub returns-clause-alone : goal.returns-clause-alone
returns-clause-alone c = λ fits id.
    (server_fits c.args.interface.now c.args.limits c.args.inputs.items c.in_ok-answers.answers.items
    (state_of c.take_all.new.driven) fits (seen c).1).2 id

pub returns-clause-said : goal.returns-clause-said
returns-clause-said c = λ fits calls says id.
    server_said c.args.interface.now c.args.limits c.args.inputs.items c.in_ok-answers.answers.items
    (state_of c.take_all.new.driven)
    fits calls says (seen c).1 id

pub returns-clause-put_out : goal.returns-clause-put_out
returns-clause-put_out c =
    server_puts_out c.args.interface.now c.args.limits c.args.inputs.items c.in_ok-answers.answers.items
    (state_of c.take_all.new.driven)
    (seen c).1
