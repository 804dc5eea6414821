use Rattle.std.proofs.Common.{◌≡◌, None}
use Rattle.giop_commands.specs.Session.Acts.{outbox}
use Rattle.giop_serving.specs.Serve.Serving.{AnswersOne, desk, served_of}
use Rattle.giop_commands.proofs.OnSession.StepLemmas.{Sofar}
use Rattle.giop_serving.proofs.serve.turns.answer_each.Given as goal

abbrev pub invariant-ids : goal.invariant-ids
invariant-ids l = record {
  answered :
      Sofar (λ id s t. AnswersOne (served_of l.serving) l.fn.end.limits l.fn.end.fault id s None t) l.ids l.id-index
      (desk (outbox l.fn.end.calls l.fn.end.outgoing) l.fn.passed.names.items) (desk (outbox l.end.calls l.end.outgoing) l.passed.names.items);
  others : l.end ≡ record l.fn.end { calls = l.end.calls; outgoing = l.end.outgoing };
}
