use Rattle.std.proofs.Common.{refl}
use Rattle.giop_commands.specs.Session.Acts.{outbox}
use Rattle.giop_serving.specs.Serve.Serving.{AnswersOne, SendsLeft, desk, served_of}
use Rattle.giop_commands.specs.Session.Steps.{Upto}
use Rattle.giop_commands.proofs.OnSession.ActLemmas.{same_fault}
use Rattle.giop_serving.proofs.OnServe.ServingLemmas.{and_passed}
use Rattle.giop_commands.proofs.OnSession.StepLemmas.{and_then}
use Rattle.giop_serving.proofs.serve.turns.answer_all.Goals as goal

pub returns-clause-answers : goal.returns-clause-answers
returns-clause-answers c =
    let fault = same_fault c.args.end.now c.answer_each.new.end c.answer_each.ensures.others in
    let ids = c.in_ok-ids.ensures in
    let passed = c.answer_each.new.passed.names.items in
    and_then (Upto (AnswersOne (served_of c.args.serving) c.args.end.now.limits c.args.end.now.fault) _)
    (SendsLeft (served_of c.args.serving) c.args.end.now.limits c.args.end.now.fault)
    (desk (outbox c.args.end.now.calls c.args.end.now.outgoing) c.args.passed.now.names.items)
    (desk (outbox c.answer_each.new.end.calls c.answer_each.new.end.outgoing) passed)
    (desk (outbox c.send_all.new.end.calls c.send_all.new.end.outgoing) passed) c.send_all.result
    (rw (c.in_default.is, c.as_slice.ensures.value, ids) at c.in_ok-fault.ensures.answers)
    (and_passed _ _ _ (rw fault at c.send_all.ensures.sends) refl)
