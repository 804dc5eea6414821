use Rattle.std.proofs.Common.{ap, sym}
use Rattle.giop_calls.specs.ServerTable.{server_step, is_closed, is_gathering}
use Rattle.giop_table.specs.CallTable.{rules_of}
use Rattle.giop_end.specs.Hearing.Heard.{in_call}
use Rattle.giop_end.specs.Acts.ServerAnswers.{IsAnswer, answer_fault, question_in}
use Rattle.giop_serving.specs.declared.serve.answering.Due.TheVariants.{Reply}
use Rattle.giop_commands.specs.Session.Acts.{outbox}
use Rattle.giop_serving.specs.Serve.Answering.{reply_of}
use Rattle.giop_serving.specs.Serve.Serving.{desk, served_of}
use Rattle.giop_commands.proofs.OnSession.ActLemmas.{acts_told}
use Rattle.giop_serving.proofs.OnServe.ServingLemmas.{and_passed, due_told}
use Rattle.giop_serving.proofs.serve.turns.answer.Goals as goal

pub returns-in_ok-pass-in-Reply-clause-answers : goal.returns-in_ok-pass-in-Reply-clause-answers
returns-in_ok-pass-in-Reply-clause-answers c =
    let it = served_of c.args.serving in
    let entry = c.in-Some.entry.now in
    let s = desk (outbox c.args.end.now.calls c.args.end.now.outgoing) c.args.passed.now.names.items in
    let t = desk (outbox c.answer.new.self.calls c.answer.new.self.outgoing) c.pass.new.self.names.items in
    let reply = reply_of it.interface it.objects c.args.passed.now.names.items c.args.id entry c.in-Reply.version c.in-Reply.answer in
    due_told it c.args.end.now.limits c.args.end.now.fault c.args.id s t entry (Reply c.in-Reply.version c.in-Reply.answer) c.told_of-in-Reply.result
    (sym c.in-Some.ensures) c.in-Reply.ensures
    (and_passed _ _ _ (acts_told (rules_of server_step is_closed is_gathering) in_call c.args.end.now.fault c.args.id
    (answer_fault it.interface c.args.end.now.limits (question_in entry) reply it.form) (IsAnswer it.interface (question_in entry) reply it.form) s.box t.box
    c.answer.result c.told_of-in-Reply.result (λ why stands. let was = c.answer.ensures.failed why stands in (was.0, ap (λ e. outbox e.calls e.outgoing) was.1))
    (rw (c.in_ok-reply-in-Reply.ensures, ← c.in-Some.ensures, c.requires) at c.answer.ensures.answered) c.told_of-in-Reply.ensures.ok)
    c.in_ok-pass-in-Reply.ensures)
