use Rattle.giop_commands.specs.Session.Acts.{outbox}
use Rattle.giop_calling.specs.Call.Calling.{CallsOne, CallsSent, asked_of}
use Rattle.giop_commands.specs.Session.Steps.{Upto}
use Rattle.giop_commands.proofs.OnSession.ActLemmas.{same_fault}
use Rattle.giop_commands.proofs.OnSession.StepLemmas.{and_then}
use Rattle.giop_calling.proofs.call.call_all.Goals as goal

pub returns-clause-calls : goal.returns-clause-calls
returns-clause-calls c =
    let fault = same_fault c.args.end.now c.call_each.new.end c.call_each.ensures.others in
    and_then (Upto (CallsOne (asked_of c.args.calling c.args.calls.items) c.args.end.now.fault) c.args.calls.items) (CallsSent c.args.end.now.fault)
    (outbox c.args.end.now.calls c.args.end.now.outgoing) (outbox c.call_each.new.end.calls c.call_each.new.end.outgoing)
    (outbox c.send_all.new.end.calls c.send_all.new.end.outgoing) c.send_all.result (rw c.in_default.is at c.in_ok-fault.ensures.calls)
    (rw fault at c.send_all.ensures.sends)
