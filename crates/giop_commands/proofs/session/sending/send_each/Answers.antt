use Rattle.std.proofs.Common.{◌≤◌, length, refl, arith}
use Rattle.giop_end.specs.Hearing.Heard.{in_call}
use Rattle.giop_commands.specs.Session.Acts.{SendsNext, outbox}
use Rattle.giop_commands.proofs.OnSession.ActLemmas.{others_on, same_fault}
use Rattle.giop_commands.proofs.OnSession.StepLemmas.{sofar_none, sofar_more, sofar_all, stopped}
use Rattle.giop_commands.proofs.session.sending.send_each.Goals as goal

pub ids-init : goal.ids-init
ids-init g c = record { sent = sofar_none _ c.args.ids.now _; others = refl }

pub ids-preserved : goal.ids-preserved
ids-preserved g c =
    let fault = same_fault c.args.end.now c.ids.end c.ids.invariant.others in
    record {
      sent = sofar_more _ c.args.ids.now c.ids.id-index 0 _ (outbox c.ids.end.calls c.ids.end.outgoing) _ c.ids-test.true c.ids.invariant.sent
          (rw (c.in_default.is, fault) at c.in_ok-fault.ensures.sends);
      others = others_on c.args.end.now c.ids.end c.send_next.new.end c.ids.invariant.others c.send_next.ensures.others;
    }

pub returns-in-Some-clause-sends : goal.returns-in-Some-clause-sends
returns-in-Some-clause-sends g c =
    let fault = same_fault c.args.end.now c.ids.end c.ids.invariant.others in
    stopped _ c.args.ids.now c.ids.id-index 0 _ (outbox c.ids.end.calls c.ids.end.outgoing) _ c.in-Some.fault c.ids-test.true c.ids.invariant.sent
    (rw (c.in-Some.is, fault) at c.in_ok-fault.ensures.sends)

pub returns-clause-sends : goal.returns-clause-sends
returns-clause-sends g c =
    let all : length c.args.ids.now ≤ c.ids.id-index = omega arith in
    sofar_all
    (SendsNext g.R.CallRule.next g.R.CallRule.closed g.R.Side.gathering in_call g.R.SendsPieces.sends c.args.end.now.fault g.R.Sender.left_in)
    c.args.ids.now c.ids.id-index (outbox c.args.end.now.calls c.args.end.now.outgoing) (outbox c.ids.end.calls c.ids.end.outgoing) all c.ids.invariant.sent
