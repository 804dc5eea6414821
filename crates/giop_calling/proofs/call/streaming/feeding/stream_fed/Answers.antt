use Rattle.std.proofs.Common.{◌∙◌, []}
use Rattle.giop_end.specs.Ends.View.{end_between}
use Rattle.giop_calling.specs.Call.Feeding.{fed_of}
use Rattle.giop_asked_calls.specs.Lines.{feed_at}
use Rattle.giop_calling.specs.Call.Calling.{asked_of}
use Rattle.giop_commands.proofs.OnSession.ActLemmas.{turned_on}
use Rattle.giop_calling.proofs.OnCall.FeedingLemmas.{fed_ends, fed_streams, fed_turn}
use Rattle.giop_commands.proofs.OnSession.StepLemmas.{counted_more}
use Rattle.giop_calling.proofs.call.streaming.feeding.stream_fed.Goals as goal

pub returns-in-Ends : goal.returns-in-Ends
returns-in-Ends g c =
    let s = end_between (g.R.Read.remaining c.turns.pipes.reader) (g.W.Write.contents c.turns.pipes.writer) c.turns.end in
    let t = end_between (g.R.Read.remaining c.turn_of_calls.new.pipes.reader) (g.W.Write.contents c.turn_of_calls.new.pipes.writer) c.turn_of_calls.new.end in
    let first = feed_at (g.S.Read.remaining c.turns.source.source) c.turns.source in
    let mid = feed_at (g.S.Read.remaining c.feed_next.new.source.source) c.feed_next.new.source in
    fed_streams (asked_of c.args.calling []) c.args.calling.lines c.args.source.now.waits c.turns.done _
    (fed_of (g.R.Read.remaining c.turns.pipes.reader) (g.W.Write.contents c.turns.pipes.writer) (g.O.Write.contents c.turns.pipes.out)
    first c.turns.end c.turns.well)
    _ c.in-Ends.refused c.turns.invariant.streamed c.turns-test.true
    (fed_ends (asked_of c.args.calling []) c.args.calling.lines c.args.source.now.waits s t (g.O.Write.contents c.turns.pipes.out)
    (g.O.Write.contents c.turn_of_calls.new.pipes.out) first mid c.turn_of_calls.new.left.items c.turns.well c.turn_of_calls.new.well c.in-Ends.refused
    (rw c.turns.invariant.waits at c.in_ok-feed_next.ensures.feeds) (rw c.in-Ends.is at (c.in_ok-refused.ensures.goes [])))

pub turns-preserved : goal.turns-preserved
turns-preserved g c =
    let s = end_between (g.R.Read.remaining c.turns.pipes.reader) (g.W.Write.contents c.turns.pipes.writer) c.turns.end in
    let t = end_between (g.R.Read.remaining c.turn_of_calls.new.pipes.reader) (g.W.Write.contents c.turn_of_calls.new.pipes.writer) c.turn_of_calls.new.end in
    let first = feed_at (g.S.Read.remaining c.turns.source.source) c.turns.source in
    let mid = feed_at (g.S.Read.remaining c.feed_next.new.source.source) c.feed_next.new.source in
    record {
      streamed = counted_more _ c.turns.done _
          (fed_of (g.R.Read.remaining c.turns.pipes.reader) (g.W.Write.contents c.turns.pipes.writer) (g.O.Write.contents c.turns.pipes.out) first c.turns.end
          c.turns.well)
          _ c.turns.invariant.streamed
          (fed_turn (asked_of c.args.calling []) c.args.calling.lines c.args.source.now.waits s t (g.O.Write.contents c.turns.pipes.out)
          (g.O.Write.contents c.turn_of_calls.new.pipes.out) first mid c.turn_of_calls.new.left.items c.turns.well c.turn_of_calls.new.well
          (rw c.turns.invariant.waits at c.in_ok-feed_next.ensures.feeds) (rw c.in_default.is at (c.in_ok-refused.ensures.goes [])));
      waits = c.in_ok-feed_next.ensures.waits ∙ c.turns.invariant.waits;
      fault = c.in_ok-refused.ensures.fault c.in_default.is;
      others = turned_on c.args.end.now c.turns.end c.turn_of_calls.new.end c.turns.invariant.others c.in_ok-refused.ensures.others;
    }
