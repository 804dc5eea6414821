use Rattle.std.proofs.Common.{subst}
use Rattle.giop_c.specs.Acts.{TellsAct, form_of}
use Rattle.giop_c.specs.Server.Answers.{AnswersUser}
use Rattle.giop_c.specs.Values.{c_value_form}
use Rattle.giop_c.proofs.AtLemmas.{at_open}
use Rattle.giop_c.proofs.server.answer_calls.giop_server_answer_user.Goals as goal

pub returns : goal.returns
returns c =
    let call = c.answer_user-answer in
    let id = c.args.id in
    let exception = c.args.exception.now in
    let members = c.args.members.now in
    let form = form_of c.args.form.now in
    let done = subst (λ values. AnswersUser id exception values members form c.in-Some.served.value call.result call.new.self) c.value_form_of-values.ensures
    (subst (λ given. AnswersUser id exception c.value_form_of-values.result members given c.in-Some.served.value call.result call.new.self) c.form_of.ensures
    (subst (λ held. AnswersUser id exception c.value_form_of-values.result members c.form_of.result held call.result call.new.self)
    c.deref_mut.ensures.value call.ensures)) in
    at_open _ _ c.in-Some.served.value call.new.self _ _
    (λ old new. TellsAct (λ answer. AnswersUser id exception (c_value_form c.args.value_form) members form old answer new) c.args.fault.now
    c.told_act.new.fault c.told_act.result)
    c.in-Some.ensures.held c.of.ensures (call.result, done, c.told_act.ensures)
