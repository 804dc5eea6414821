use Rattle.giop_calling.specs.Call.Calling.{asked_of}
use Rattle.giop_calling.specs.Call.Streaming.{course_of}
use Rattle.giop_commands.proofs.OnSession.ActLemmas.{turned_on}
use Rattle.giop_calling.proofs.OnCall.StreamingLemmas.{streamed}
use Rattle.giop_commands.proofs.OnSession.StepLemmas.{counted_more}
use Rattle.giop_calling.proofs.call.streaming.stream_calls.Goals as goal

pub returns-in-Ends : goal.returns-in-Ends
returns-in-Ends g c =
    streamed (asked_of c.args.calling c.args.left.now.items) c.args.calling.lines c.turns.done _
    (course_of (g.R.Read.remaining c.turns.pipes.reader) (g.W.Write.contents c.turns.pipes.writer) (g.O.Write.contents c.turns.pipes.out) c.turns.end
    c.turns.left.items c.turns.well)
    _ c.in-Ends.refused c.turns.invariant.streamed c.turns-test.true (rw c.in-Ends.is at (c.in_ok-refused.ensures.goes c.args.left.now.items))

pub turns-preserved : goal.turns-preserved
turns-preserved g c = record {
  streamed = counted_more _ c.turns.done _
      (course_of (g.R.Read.remaining c.turns.pipes.reader) (g.W.Write.contents c.turns.pipes.writer) (g.O.Write.contents c.turns.pipes.out) c.turns.end
      c.turns.left.items c.turns.well)
      _ c.turns.invariant.streamed (rw c.in_default.is at (c.in_ok-refused.ensures.goes c.args.left.now.items));
  fault = c.in_ok-refused.ensures.fault c.in_default.is;
  others = turned_on c.args.end.now c.turns.end c.turn_of_calls.new.end c.turns.invariant.others c.in_ok-refused.ensures.others;
}
