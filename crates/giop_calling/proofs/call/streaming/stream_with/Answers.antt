use Rattle.giop_calling.specs.Call.Calling.{asked_of}
use Rattle.giop_commands.specs.Session.Printed.{wire}
use Rattle.giop_calling.proofs.OnCall.StreamingLemmas.{is_streamed}
use Rattle.giop_calling.proofs.call.streaming.stream_with.Goals as goal

pub returns-in-Ok : goal.returns-in-Ok
returns-in-Ok g c =
    is_streamed (asked_of c.args.calling c.args.left.now.items) c.args.calling.lines
    (wire (g.R.Read.remaining c.args.pipes.now.reader) (g.W.Write.contents c.args.pipes.now.writer))
    (wire (g.R.Read.remaining c.stream_calls.new.pipes.reader) (g.W.Write.contents c.stream_calls.new.pipes.writer)) (g.O.Write.contents c.args.pipes.now.out)
    (g.O.Write.contents c.stream_calls.new.pipes.out) (g.O.Write.contents c.tell_end.new.out) c.in-Ok.refused c.stream_calls.new.end.outgoing
    c.stream_calls.new.end.framer c.stream_calls.new.end.calls c.stream_calls.new.end.fault c.stream_calls.new.left.items
    c.stream_calls.new.well c.tell_end.result
    (rw (
      c.requires.fault,
      c.requires.calls,
      c.requires.outgoing,
      c.requires.unread,
    )
    at c.in-Ok.ensures)
    c.tell_end.ensures.text c.tell_end.ensures.ok c.tell_end.ensures.ends
