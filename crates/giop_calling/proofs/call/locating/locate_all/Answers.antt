use Rattle.std.proofs.Common.{[]}
use Rattle.giop_commands.specs.Session.Acts.{outbox}
use Rattle.giop_calling.specs.Call.Calling.{Asked, CallsSent, asked_of}
use Rattle.giop_calling.specs.Call.Locating.{LocatesOne}
use Rattle.giop_commands.proofs.OnSession.ActLemmas.{same_fault}
use Rattle.giop_commands.proofs.OnSession.StepLemmas.{and_then}
use Rattle.giop_calling.proofs.call.locating.locate_all.Goals as goal

pub returns-clause-locates : goal.returns-clause-locates
returns-clause-locates c =
    let asked : Asked = asked_of c.args.calling [] in
    let fault = same_fault c.args.end.now c.locate_one.new.end c.locate_one.ensures.others in
    and_then (LocatesOne asked c.args.end.now.fault) (CallsSent c.args.end.now.fault)
    (outbox c.args.end.now.calls c.args.end.now.outgoing) (outbox c.locate_one.new.end.calls c.locate_one.new.end.outgoing)
    (outbox c.send_all.new.end.calls c.send_all.new.end.outgoing) c.send_all.result (rw c.in_default.is at c.in_ok-fault.ensures.locates)
    (rw fault at c.send_all.ensures.sends)
