use Rattle.std.proofs.Common.{◌==◌, not, subst}
use Rattle.giop_c.specs.Acts.{TellsAct, form_of}
use Rattle.giop_c.specs.Server.Answers.{AnswersForward}
use Rattle.giop_c.proofs.AtLemmas.{at_open}
use Rattle.giop_c.proofs.server.answer_calls.giop_server_answer_forward.Goals as goal

pub returns : goal.returns
returns c =
    let call = c.answer_forward-answer in
    let text = c.args.reference.now in
    let permanent = not (c.args.permanent == 0) in
    let form = form_of c.args.form.now in
    let done = subst (λ given. AnswersForward c.args.id text permanent given c.in-Some.served.value call.result call.new.self) c.form_of.ensures
    (subst (λ held. AnswersForward c.args.id text permanent c.form_of.result held call.result call.new.self) c.deref_mut.ensures.value call.ensures) in
    at_open _ _ c.in-Some.served.value call.new.self _ _
    (λ old new. TellsAct (λ answer. AnswersForward c.args.id text permanent form old answer new) c.args.fault.now c.told_act.new.fault c.told_act.result)
    c.in-Some.ensures.held c.of.ensures (call.result, done, c.told_act.ensures)
