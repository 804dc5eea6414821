use Rattle.std.proofs.Common.{◌∙◌, refl}
use Rattle.giop_serving.specs.Serve.Serving.{served_of, session_at}
use Rattle.giop_serving.specs.Serve.Streaming.{shown}
use Rattle.giop_commands.proofs.OnSession.ActLemmas.{turned_interface, turned_limits, turned_on}
use Rattle.giop_commands.proofs.OnSession.StepLemmas.{counted_none, counted_more}
use Rattle.giop_serving.proofs.OnServe.StreamingLemmas.{opened_by, streamed, turn_told}
use Rattle.giop_commands.proofs.OnSession.StreamingLemmas.{told_on}
use Rattle.giop_serving.proofs.serve.streaming.stream_answers.Goals as goal

pub turns-init : goal.turns-init
turns-init g c = record { streamed = counted_none _ _; others = refl }

pub turn_of_answers-requires : goal.turn_of_answers-requires
turn_of_answers-requires g c = turned_interface c.args.end.now c.turns.end c.turns.invariant.others ∙ c.requires

pub tell_over-requires : goal.tell_over-requires
tell_over-requires g c = c.in_ok-refused.ensures.sound c.in_default.is

pub turns-preserved : goal.turns-preserved
turns-preserved g c =
    let limits = turned_limits c.args.end.now c.turns.end c.turns.invariant.others in
    let s = session_at (g.R.Read.remaining c.turns.pipes.reader) (g.W.Write.contents c.turns.pipes.writer) c.turns.end c.turns.passed in
    let answered = session_at (g.R.Read.remaining c.turn_of_answers.new.pipes.reader) (g.W.Write.contents c.turn_of_answers.new.pipes.writer)
    c.turn_of_answers.new.end c.turn_of_answers.new.passed in
    record {
      streamed = counted_more _ c.turns.done _ (shown s (g.O.Write.contents c.turns.pipes.out)) _ c.turns.invariant.streamed
          (turn_told (served_of c.args.serving) c.args.end.now.limits c.args.serving.lines s answered _ (g.O.Write.contents c.turns.pipes.out) _
          (rw (c.in_default.is, limits) at c.in_ok-refused.ensures.goes)
          (rw c.turn_of_answers.ensures.out at c.in_ok-tell_over.ensures.text)
          (opened_by c.turn_of_answers.new.end c.tell_over.new.end _ _ c.in_ok-tell_over.ensures.left));
      others = turned_on c.args.end.now c.turns.end c.tell_over.new.end c.turns.invariant.others
          (turned_on c.turns.end c.turn_of_answers.new.end c.tell_over.new.end c.turn_of_answers.ensures.others
          (told_on c.turn_of_answers.new.end c.tell_over.new.end _ c.in_ok-tell_over.ensures.left));
    }

pub returns-in-Ends : goal.returns-in-Ends
returns-in-Ends g c =
    let limits = turned_limits c.args.end.now c.turns.end c.turns.invariant.others in
    rw c.turn_of_answers.ensures.out
    (streamed (served_of c.args.serving) c.args.end.now.limits c.args.serving.lines c.turns.done _
    (shown (session_at (g.R.Read.remaining c.turns.pipes.reader) (g.W.Write.contents c.turns.pipes.writer) c.turns.end c.turns.passed)
    (g.O.Write.contents c.turns.pipes.out))
    _ c.in-Ends.refused c.turns.invariant.streamed c.turns-test.true (rw (c.in-Ends.is, limits) at c.in_ok-refused.ensures.goes))
