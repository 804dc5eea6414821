use Rattle.std.proofs.Common.{◌≡◌, refl, arith}
use Rattle.giop_end.specs.Hearing.Heard.{in_call}
use Rattle.giop_commands.specs.Session.Acts.{SendsRound, outbox}
use Rattle.giop_commands.proofs.OnSession.ActLemmas.{others_on, same_fault}
use Rattle.giop_commands.proofs.OnSession.StepLemmas.{counted_none, counted_more, counted_all, counted_stops}
use Rattle.giop_commands.proofs.session.sending.send_all.Goals as goal

pub rounds-init : goal.rounds-init
rounds-init g c = record { sent = counted_none _ _; others = refl }

pub rounds-preserved : goal.rounds-preserved
rounds-preserved g c =
    let fault = same_fault c.args.end.now c.rounds.end c.rounds.invariant.others in
    record {
      sent = counted_more _ c.rounds.done _ (outbox c.rounds.end.calls c.rounds.end.outgoing) _ c.rounds.invariant.sent
          (rw (c.in_default.is, fault, c.as_slice-in-rounds.ensures.value) at c.in_ok-fault.ensures.sends);
      others = others_on c.args.end.now c.rounds.end c.send_each.new.end c.rounds.invariant.others c.send_each.ensures.others;
    }

pub returns-in-Some-clause-sends : goal.returns-in-Some-clause-sends
returns-in-Some-clause-sends g c =
    let fault = same_fault c.args.end.now c.rounds.end c.rounds.invariant.others in
    let ids = c.in_ok-ids.ensures in
    let count = rw (c.as_slice.ensures.value, ids) at c.most_left-most.ensures in
    let sent = rw ids at c.rounds.invariant.sent in
    let stops = rw (c.in-Some.is, fault, c.as_slice-in-rounds.ensures.value, ids) at c.in_ok-fault.ensures.sends in
    rw (← count)
    (counted_stops
    (SendsRound g.R.CallRule.next g.R.CallRule.closed g.R.Side.gathering in_call g.R.SendsPieces.sends c.args.end.now.fault g.R.Sender.left_in _)
    c.rounds.done c.most_left-most.result (outbox c.args.end.now.calls c.args.end.now.outgoing) (outbox c.rounds.end.calls c.rounds.end.outgoing)
    (outbox c.send_each.new.end.calls c.send_each.new.end.outgoing) c.in-Some.fault c.rounds-test.true sent stops)

pub returns-clause-sends : goal.returns-clause-sends
returns-clause-sends g c =
    let ids = c.in_ok-ids.ensures in
    let count = rw (c.as_slice.ensures.value, ids) at c.most_left-most.ensures in
    let done : c.rounds.done ≡ c.most_left-most.result = omega arith in
    let sent = rw (ids, done) at c.rounds.invariant.sent in
    rw (← count)
    (counted_all
    (SendsRound g.R.CallRule.next g.R.CallRule.closed g.R.Side.gathering in_call g.R.SendsPieces.sends c.args.end.now.fault g.R.Sender.left_in _)
    c.most_left-most.result (outbox c.args.end.now.calls c.args.end.now.outgoing) (outbox c.rounds.end.calls c.rounds.end.outgoing) sent)
