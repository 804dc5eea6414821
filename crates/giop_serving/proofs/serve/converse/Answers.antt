use Rattle.std.proofs.Common.{◌∙◌, refl}
use Rattle.giop_serving.specs.Serve.Serving.{served_of, session_at}
use Rattle.giop_commands.proofs.OnSession.ActLemmas.{turned_interface, turned_limits, turned_on}
use Rattle.giop_serving.proofs.OnServe.ServingLemmas.{conversed}
use Rattle.giop_commands.proofs.OnSession.StepLemmas.{counted_none, counted_more}
use Rattle.giop_serving.proofs.serve.converse.Goals as goal

pub turns-init : goal.turns-init
turns-init g c = record { served = counted_none _ _; others = refl; out = refl }

pub turn_of_answers-requires : goal.turn_of_answers-requires
turn_of_answers-requires g c = turned_interface c.args.end.now c.turns.end c.turns.invariant.others ∙ c.requires

pub turns-preserved : goal.turns-preserved
turns-preserved g c =
    let limits = turned_limits c.args.end.now c.turns.end c.turns.invariant.others in
    record {
      served = counted_more _ c.turns.done _
          (session_at (g.R.Read.remaining c.turns.pipes.reader) (g.W.Write.contents c.turns.pipes.writer) c.turns.end c.turns.passed)
          _ c.turns.invariant.served (rw (c.in_default.is, limits) at c.in_ok-refused.ensures.goes);
      others = turned_on c.args.end.now c.turns.end c.turn_of_answers.new.end c.turns.invariant.others c.turn_of_answers.ensures.others;
      out = c.turn_of_answers.ensures.out ∙ c.turns.invariant.out;
    }

pub returns-in-Ends-clause-converses : goal.returns-in-Ends-clause-converses
returns-in-Ends-clause-converses g c =
    let limits = turned_limits c.args.end.now c.turns.end c.turns.invariant.others in
    conversed (served_of c.args.serving) c.args.end.now.limits c.turns.done _
    (session_at (g.R.Read.remaining c.turns.pipes.reader) (g.W.Write.contents c.turns.pipes.writer) c.turns.end c.turns.passed)
    _ c.in-Ends.refused c.turns.invariant.served c.turns-test.true (rw (c.in-Ends.is, limits) at c.in_ok-refused.ensures.goes)
