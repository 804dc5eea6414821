use Rattle.std.proofs.Common.{inl}
use Rattle.giop_commands.specs.Session.Acts.{outbox}
use Rattle.giop_calling.specs.Call.Calling.{CallsSent, asked_of}
use Rattle.giop_calling.specs.Call.Streaming.{Makes}
use Rattle.giop_commands.proofs.OnSession.ActLemmas.{same_fault}
use Rattle.giop_commands.proofs.OnSession.StepLemmas.{and_then}
use Rattle.giop_calling.proofs.call.streaming.turns.call_next.Goals as goal

pub returns-in-Some-clause-calls : goal.returns-in-Some-clause-calls
returns-in-Some-clause-calls c = λ all. inl (rw c.in-Some.is at (c.in_ok-fault.ensures.calls all))

pub returns-clause-calls : goal.returns-clause-calls
returns-clause-calls c = λ all.
    let fault = same_fault c.args.end.now c.make_calls.new.end c.make_calls.ensures.others in
    and_then (Makes (asked_of c.args.calling all) c.args.end.now.fault c.args.left.now.items c.make_calls.new.left.items)
    (CallsSent c.args.end.now.fault) (outbox c.args.end.now.calls c.args.end.now.outgoing)
    (outbox c.make_calls.new.end.calls c.make_calls.new.end.outgoing) (outbox c.send_all.new.end.calls c.send_all.new.end.outgoing) c.send_all.result
    (rw c.in_default.is at (c.in_ok-fault.ensures.calls all)) (rw fault at c.send_all.ensures.sends)
