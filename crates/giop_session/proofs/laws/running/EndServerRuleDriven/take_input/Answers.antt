use Rattle.std.proofs.Common.{IfOk, subst, sym}
use Rattle.giop_end.specs.Acts.ServerAnswers.{IsAnswer, answer_fault, question_of}
use Rattle.giop_table.specs.CallTable.{entry_at}
use Rattle.giop_end.specs.Ends.View.{IsDriven, state_of}
use Rattle.giop_end.specs.Hearing.ServerHears.{server_side}
use Rattle.giop_session.specs.Runs.ServerRuns.{server_run}
use Rattle.giop_session.specs.Runs.SideRuns.{SideIsGiven}
use Rattle.giop_session.proofs.OnRuns.SeenLemmas.{acted_given}
use Rattle.giop_session.proofs.laws.running.EndServerRuleDriven.take_input.Goals as goal

pub returns-in-Answer : goal.returns-in-Answer
returns-in-Answer c =
    let before = c.args.self.now in
    let after = c.answer.new.self in
    let reply = c.in-Answer.reply in
    let form = c.in-Answer.form.form in
    let told = c.answer.ensures in
    subst (λ given. IfOk c.answer_of.result (λ answered.
    SideIsGiven (server_run before.interface.now) before.limits (state_of before) given answered (state_of after) × IsDriven before after)) (sym c.in-Answer.is)
    (acted_given (server_side before.interface.now) before after reply.id
    (answer_fault before.interface.now before.limits (question_of (entry_at before.calls reply.id)) reply form)
    (IsAnswer before.interface.now (question_of (entry_at before.calls reply.id)) reply form)
    c.answer.result c.answer_of.result told.failed told.answered told.others c.answer_of.ensures.value)
