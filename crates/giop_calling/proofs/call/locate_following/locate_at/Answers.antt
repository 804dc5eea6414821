use Rattle.std.proofs.Common.{◌∙◌, []}
use Rattle.giop_end.specs.Pumping.{between}
use Rattle.giop_commands.specs.Session.Acts.{outbox}
use Rattle.giop_calling.specs.Call.Calling.{asked_of}
use Rattle.giop_commands.proofs.OnSession.ActLemmas.{same_fault, same_interface, same_unread}
use Rattle.giop_calling.proofs.OnCall.LocateFollowingLemmas.{located_at}
use Rattle.giop_calling.proofs.call.locate_following.locate_at.Goals as goal

pub returns-clause-located : goal.returns-clause-located
returns-clause-located g c =
    let fault = same_fault c.args.end.now c.locate_all.new.end c.locate_all.ensures.others in
    let interface = same_interface c.args.end.now c.locate_all.new.end c.locate_all.ensures.others ∙ c.requires.interface in
    let unread = same_unread c.args.end.now c.locate_all.new.end c.locate_all.ensures.others in
    located_at (asked_of c.args.calling [])
    (between (g.R.Read.remaining c.args.reader.now) (g.W.Write.contents c.args.writer.now) c.args.end.now.outgoing c.args.end.now.framer
    c.args.end.now.calls c.args.end.now.fault)
    _ (outbox c.locate_all.new.end.calls c.locate_all.new.end.outgoing) c.in_ok-refused.refused
    c.in_ok-refused.ensures.locates
    (rw (interface, unread, fault) at c.in_ok-talk.ensures.talks)
