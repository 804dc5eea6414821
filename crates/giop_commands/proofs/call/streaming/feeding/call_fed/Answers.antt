use Rattle.std.proofs.Common.{[]}
use Rattle.giop_commands.specs.CallLines.{feed, so_far}
use Rattle.giop_commands.specs.Calling.{asked_of}
use Rattle.giop_commands.specs.Sessions.{wire}
use Rattle.giop_commands.proofs.CallFeedingLemmas.{is_fed}
use Rattle.giop_commands.proofs.call.streaming.feeding.call_fed.Goals as goal

pub returns-in-Ok : goal.returns-in-Ok
returns-in-Ok g c =
    is_fed (asked_of c.args.calling []) c.args.lines c.args.source.now.waits
    (feed (g.S.Read.remaining c.args.source.now.source) (so_far c.args.source.now.lines))
    (feed (g.S.Read.remaining c.converse.new.source.source) (so_far c.converse.new.source.lines))
    (wire (g.R.Read.remaining c.args.reader.now) (g.W.Write.contents c.args.writer.now))
    (wire (g.R.Read.remaining c.converse.new.reader) (g.W.Write.contents c.converse.new.writer)) (g.O.Write.contents c.args.out.now)
    (g.O.Write.contents c.converse.new.out) (g.O.Write.contents c.tell_end.new.out) c.in-Ok.refused c.converse.new.end.outgoing
    c.converse.new.end.framer c.converse.new.end.calls c.converse.new.end.fault c.converse.new.well c.tell_end.result
    (rw (c.new-end.ensures.fault, c.new-end.ensures.calls, c.new-end.ensures.outgoing, c.new-end.ensures.unread) at c.in-Ok.ensures)
    c.tell_end.ensures.text (rw c.ended_well-all.ensures at c.tell_end.ensures.ok) c.tell_end.ensures.ends
