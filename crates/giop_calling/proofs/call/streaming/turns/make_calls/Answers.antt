use Rattle.std.proofs.Common.{◌∙◌, None}
use Rattle.giop_commands.specs.Session.Acts.{outbox}
use Rattle.giop_calling.specs.Call.Calling.{asked_of}
use Rattle.giop_calling.specs.Call.Streaming.{MakesOne}
use Rattle.giop_commands.proofs.OnSession.ActLemmas.{others_on, same_fault, same_interface, same_limits}
use Rattle.giop_calling.proofs.OnCall.StreamingLemmas.{made_some, made_up_to}
use Rattle.giop_commands.proofs.OnSession.StepLemmas.{before_more}
use Rattle.giop_calling.proofs.call.streaming.turns.make_calls.Goals as goal

pub returns-in_default-clause-calls : goal.returns-in_default-clause-calls
returns-in_default-clause-calls c = λ all.
    let took = rw c.in_default.is at c.in_ok-call.ensures in
    made_some (asked_of c.args.calling all) c.args.end.now.fault c.args.left.now.items c.calls.left.items c.next_call.new.left.items
    (outbox c.args.end.now.calls c.args.end.now.outgoing) (outbox c.calls.end.calls c.calls.end.outgoing) took.1 (c.calls.invariant.made all) took.0

pub call_one-requires-clause-interface : goal.call_one-requires-clause-interface
call_one-requires-clause-interface c = same_interface c.args.end.now c.calls.end c.calls.invariant.others ∙ c.requires.interface

pub call_one-requires-clause-limits : goal.call_one-requires-clause-limits
call_one-requires-clause-limits c = same_limits c.args.end.now c.calls.end c.calls.invariant.others ∙ c.requires.limits

pub returns-in-Some-2-clause-calls : goal.returns-in-Some-2-clause-calls
returns-in-Some-2-clause-calls c = λ all.
    let took = rw c.in-Some.is at c.in_ok-call.ensures in
    let fault = same_fault c.args.end.now c.calls.end c.calls.invariant.others in
    made_up_to (asked_of c.args.calling all) c.args.end.now.fault c.args.left.now.items c.calls.left.items c.next_call.new.left.items c.in-Some.call
    (outbox c.args.end.now.calls c.args.end.now.outgoing) (outbox c.calls.end.calls c.calls.end.outgoing)
    (outbox c.call_one.new.end.calls c.call_one.new.end.outgoing) c.in-Some-2.fault took.0 (c.calls.invariant.made all)
    (record { room = took.1; calls = rw (c.in-Some-2.is, fault) at c.in_ok-fault.ensures.calls })

pub calls-preserved : goal.calls-preserved
calls-preserved c =
    let took = rw c.in-Some.is at c.in_ok-call.ensures in
    let fault = same_fault c.args.end.now c.calls.end c.calls.invariant.others in
    record {
      made = λ all.
          let step : MakesOne (asked_of c.args.calling all) c.args.end.now.fault c.in-Some.call (outbox c.calls.end.calls c.calls.end.outgoing) None
          (outbox c.call_one.new.end.calls c.call_one.new.end.outgoing) =
          record { room = took.1; calls = rw (c.in_default-2.is, fault) at c.in_ok-fault.ensures.calls } in
          before_more (λ call s t. MakesOne (asked_of c.args.calling all) c.args.end.now.fault call s None t) _ _ _ c.in-Some.call _
          (outbox c.calls.end.calls c.calls.end.outgoing) _ took.0 (c.calls.invariant.made all) step;
      others = others_on c.args.end.now c.calls.end c.call_one.new.end c.calls.invariant.others c.call_one.ensures.others;
    }
