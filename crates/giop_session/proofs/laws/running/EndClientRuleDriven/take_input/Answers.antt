use Rattle.std.proofs.Common.{IfOk, subst, sym}
use Rattle.giop_end.specs.Acts.ClientCalls.{IsCall, call_fault}
use Rattle.giop_table.specs.CallTable.{entry_at}
use Rattle.giop_end.specs.Ends.View.{IsDriven, state_of}
use Rattle.giop_end.specs.Hearing.ClientHears.{client_side}
use Rattle.giop_session.specs.Runs.ClientRuns.{client_run}
use Rattle.giop_session.specs.Runs.SideRuns.{SideIsGiven}
use Rattle.giop_session.proofs.OnRuns.SeenLemmas.{acted_given}
use Rattle.giop_session.proofs.laws.running.EndClientRuleDriven.take_input.Goals as goal

pub returns-in-Call : goal.returns-in-Call
returns-in-Call c =
    let before = c.args.self.now in
    let after = c.call.new.self in
    let request = c.in-Call.request in
    let form = c.in-Call.form.form in
    let told = c.call.ensures in
    subst (λ given. IfOk c.answer_of.result (λ answered.
    SideIsGiven (client_run before.interface.now) before.limits (state_of before) given answered (state_of after) × IsDriven before after)) (sym c.in-Call.is)
    (acted_given (client_side before.interface.now) before after request.head.id
    (call_fault before.interface.now before.limits (entry_at before.calls request.head.id) request form)
    (IsCall before.interface.now request form)
    c.call.result c.answer_of.result told.failed told.called told.others c.answer_of.ensures.value)
