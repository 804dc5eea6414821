use Rattle.std.proofs.Common.{◌≡◌, None}
use Rattle.giop_end.specs.Hearing.Heard.{in_call}
use Rattle.giop_commands.specs.Session.Acts.{SendsNext, outbox}
use Rattle.giop_commands.proofs.OnSession.StepLemmas.{Sofar}
use Rattle.giop_commands.proofs.session.sending.send_each.Given as goal

abbrev pub invariant-ids : goal.invariant-ids
invariant-ids g l = record {
  sent :
      Sofar (λ id s t. SendsNext g.R.CallRule.next g.R.CallRule.closed g.R.Side.gathering in_call g.R.SendsPieces.sends l.fn.end.fault
      g.R.Sender.left_in id s None t)
      l.ids l.id-index (outbox l.fn.end.calls l.fn.end.outgoing) (outbox l.end.calls l.end.outgoing);
  others : l.end ≡ record l.fn.end { calls = l.end.calls; outgoing = l.end.outgoing };
}
