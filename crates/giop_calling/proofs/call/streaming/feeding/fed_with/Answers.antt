use Rattle.std.proofs.Common.{[]}
use Rattle.giop_asked_calls.specs.Lines.{feed, so_far}
use Rattle.giop_calling.specs.Call.Calling.{asked_of}
use Rattle.giop_commands.specs.Session.Printed.{wire}
use Rattle.giop_calling.proofs.OnCall.FeedingLemmas.{is_fed}
use Rattle.giop_calling.proofs.call.streaming.feeding.fed_with.Goals as goal

pub returns-in-Ok : goal.returns-in-Ok
returns-in-Ok g c =
    is_fed (asked_of c.args.calling []) c.args.calling.lines c.args.source.now.waits
    (feed (g.S.Read.remaining c.args.source.now.source) (so_far c.args.source.now.lines))
    (feed (g.S.Read.remaining c.stream_fed.new.source.source) (so_far c.stream_fed.new.source.lines))
    (wire (g.R.Read.remaining c.args.pipes.now.reader) (g.W.Write.contents c.args.pipes.now.writer))
    (wire (g.R.Read.remaining c.stream_fed.new.pipes.reader) (g.W.Write.contents c.stream_fed.new.pipes.writer)) (g.O.Write.contents c.args.pipes.now.out)
    (g.O.Write.contents c.stream_fed.new.pipes.out) (g.O.Write.contents c.tell_end.new.out) c.in-Ok.refused c.stream_fed.new.end.outgoing
    c.stream_fed.new.end.framer c.stream_fed.new.end.calls c.stream_fed.new.end.fault c.stream_fed.new.well c.tell_end.result
    (rw (c.requires.fault, c.requires.calls, c.requires.outgoing, c.requires.unread) at c.in-Ok.ensures)
    c.tell_end.ensures.text (rw c.ended_well-all.ensures at c.tell_end.ensures.ok) c.tell_end.ensures.ends
