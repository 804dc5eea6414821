use Rattle.giop_commands.specs.Acts.{outbox}
use Rattle.giop_commands.specs.Serving.{AnswersOne, AnswersSent, served_of}
use Rattle.giop_commands.specs.Steps.{Upto}
use Rattle.giop_commands.proofs.ActLemmas.{same_fault}
use Rattle.giop_commands.proofs.StepLemmas.{and_then}
use Rattle.giop_commands.proofs.serve.answer_all.Goals as goal

pub returns-clause-answers : goal.returns-clause-answers
returns-clause-answers c =
    let fault = same_fault c.args.end.now c.answer_each.new.end c.answer_each.ensures.others in
    let ids = c.in_ok-ids.ensures in
    and_then (Upto (AnswersOne (served_of c.args.serving) c.args.end.now.limits c.args.end.now.fault) _) (AnswersSent c.args.end.now.fault)
    (outbox c.args.end.now.calls c.args.end.now.outgoing) (outbox c.answer_each.new.end.calls c.answer_each.new.end.outgoing)
    (outbox c.send_all.new.end.calls c.send_all.new.end.outgoing) c.send_all.result
    (rw (c.in_default.is, c.as_slice.ensures.value, ids) at c.in_ok-fault.ensures.answers) (rw fault at c.send_all.ensures.sends)
