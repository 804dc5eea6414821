use Rattle.std.proofs.Common.{◌∙◌}
use Rattle.giop_commands.specs.Session.Acts.{outbox}
use Rattle.giop_calling.specs.Call.Calling.{Asked, asked_of}
use Rattle.giop_commands.proofs.OnSession.ActLemmas.{same_fault, same_interface, same_unread}
use Rattle.giop_calling.proofs.OnCall.PrintedLemmas.{called}
use Rattle.giop_calling.proofs.call.call_with.Goals as goal

pub returns-in-Ok : goal.returns-in-Ok
returns-in-Ok g c =
    let asked : Asked = asked_of c.args.calling c.args.calls.items in
    let fault = same_fault c.args.end.now c.call_all.new.end c.call_all.ensures.others ∙ c.requires.fault in
    let interface = same_interface c.args.end.now c.call_all.new.end c.call_all.ensures.others ∙ c.requires.interface in
    let unread = same_unread c.args.end.now c.call_all.new.end c.call_all.ensures.others ∙ c.requires.unread in
    called asked c.args.calling.lines _ _ _ _ c.in_ok-refused.refused (outbox c.call_all.new.end.calls c.call_all.new.end.outgoing) c.talk.new.end.outgoing
    c.talk.new.end.framer
    c.talk.new.end.calls c.talk.new.end.fault c.tell.result
    (rw (c.requires.fault, c.requires.calls, c.requires.outgoing) at c.in_ok-refused.ensures.calls)
    (rw (interface, unread, fault) at c.in-Ok.ensures.talks) c.tell.ensures.text c.tell.ensures.ok c.tell.ensures.ends
