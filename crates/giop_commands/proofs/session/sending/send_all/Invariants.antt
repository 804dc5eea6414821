use Rattle.std.proofs.Common.{◌≡◌, None}
use Rattle.giop_end.specs.Hearing.Heard.{in_call}
use Rattle.giop_commands.specs.Session.Acts.{SendsRound, outbox}
use Rattle.giop_commands.proofs.OnSession.StepLemmas.{Counted}
use Rattle.giop_commands.proofs.session.sending.send_all.Given as goal

abbrev pub invariant-rounds : goal.invariant-rounds
invariant-rounds g l = record {
  sent :
      Counted (λ round s t. SendsRound g.R.CallRule.next g.R.CallRule.closed g.R.Side.gathering in_call g.R.SendsPieces.sends l.fn.end.fault
      g.R.Sender.left_in l.ids.items round s None t)
      l.done (outbox l.fn.end.calls l.fn.end.outgoing) (outbox l.end.calls l.end.outgoing);
  others : l.end ≡ record l.fn.end { calls = l.end.calls; outgoing = l.end.outgoing };
}
