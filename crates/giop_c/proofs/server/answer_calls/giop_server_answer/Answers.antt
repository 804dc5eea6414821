use Rattle.std.proofs.Common.{subst}
use Rattle.giop_c.specs.Acts.{TellsAct, form_of}
use Rattle.giop_c.specs.Server.Answers.{AnswersOuts}
use Rattle.giop_c.specs.Values.{c_value_form}
use Rattle.giop_c.proofs.AtLemmas.{at_open}
use Rattle.giop_c.proofs.server.answer_calls.giop_server_answer.Goals as goal

pub returns : goal.returns
returns c =
    let call = c.answer_outs-answer in
    let outs = c.args.outs.now in
    let form = form_of c.args.form.now in
    let done = subst (λ values. AnswersOuts c.args.id values outs form c.in-Some.served.value call.result call.new.self) c.value_form_of.ensures
    (subst (λ given. AnswersOuts c.args.id c.value_form_of.result outs given c.in-Some.served.value call.result call.new.self) c.form_of.ensures
    (subst (λ held. AnswersOuts c.args.id c.value_form_of.result outs c.form_of.result held call.result call.new.self) c.deref_mut.ensures.value
    call.ensures)) in
    at_open _ _ c.in-Some.served.value call.new.self _ _
    (λ old new. TellsAct (λ answer. AnswersOuts c.args.id (c_value_form c.args.value_form) outs form old answer new) c.args.fault.now
    c.told_act.new.fault c.told_act.result)
    c.in-Some.ensures.held c.of.ensures (call.result, done, c.told_act.ensures)
