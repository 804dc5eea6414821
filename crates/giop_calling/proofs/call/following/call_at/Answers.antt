use Rattle.std.proofs.Common.{◌∙◌}
use Rattle.giop_end.specs.Pumping.{between}
use Rattle.giop_commands.specs.Session.Acts.{outbox}
use Rattle.giop_calling.specs.Call.Calling.{asked_of}
use Rattle.giop_commands.proofs.OnSession.ActLemmas.{same_fault, same_interface, same_unread}
use Rattle.giop_calling.proofs.OnCall.FollowingLemmas.{called_at}
use Rattle.giop_calling.proofs.call.following.call_at.Goals as goal

pub returns-clause-calls : goal.returns-clause-calls
returns-clause-calls g c =
    let fault = same_fault c.args.end.now c.call_all.new.end c.call_all.ensures.others in
    let interface = same_interface c.args.end.now c.call_all.new.end c.call_all.ensures.others ∙ c.requires.interface in
    let unread = same_unread c.args.end.now c.call_all.new.end c.call_all.ensures.others in
    called_at (asked_of c.args.calling c.args.calls.items)
    (between (g.R.Read.remaining c.args.reader.now) (g.W.Write.contents c.args.writer.now) c.args.end.now.outgoing c.args.end.now.framer
    c.args.end.now.calls c.args.end.now.fault)
    _ (outbox c.call_all.new.end.calls c.call_all.new.end.outgoing) c.in_ok-refused.refused
    c.in_ok-refused.ensures.calls
    (rw (interface, unread, fault) at c.in_ok-talk.ensures.talks)
