use Rattle.std.proofs.Common.{◌≤◌, ◌∙◌, length, refl, arith}
use Rattle.giop_commands.specs.Session.Acts.{outbox}
use Rattle.giop_serving.specs.Serve.Serving.{AnswersOne, desk, served_of}
use Rattle.giop_commands.proofs.OnSession.ActLemmas.{others_on, same_fault, same_interface, same_limits}
use Rattle.giop_commands.proofs.OnSession.StepLemmas.{sofar_none, sofar_more, sofar_all, stopped}
use Rattle.giop_serving.proofs.serve.turns.answer_each.Goals as goal

pub ids-init : goal.ids-init
ids-init c = record { answered = sofar_none _ c.args.ids.now _; others = refl }

pub answer-requires : goal.answer-requires
answer-requires c = same_interface c.args.end.now c.ids.end c.ids.invariant.others ∙ c.requires

pub ids-preserved : goal.ids-preserved
ids-preserved c =
    let fault = same_fault c.args.end.now c.ids.end c.ids.invariant.others in
    let limits = same_limits c.args.end.now c.ids.end c.ids.invariant.others in
    record {
      answered = sofar_more _ c.args.ids.now c.ids.id-index 0 _ (desk (outbox c.ids.end.calls c.ids.end.outgoing) c.ids.passed.names.items) _
          c.ids-test.true c.ids.invariant.answered
          (rw (c.in_default.is, fault, limits) at c.in_ok-fault.ensures.answers);
      others = others_on c.args.end.now c.ids.end c.answer.new.end c.ids.invariant.others c.answer.ensures.others;
    }

pub returns-in-Some-clause-answers : goal.returns-in-Some-clause-answers
returns-in-Some-clause-answers c =
    let fault = same_fault c.args.end.now c.ids.end c.ids.invariant.others in
    let limits = same_limits c.args.end.now c.ids.end c.ids.invariant.others in
    stopped _ c.args.ids.now c.ids.id-index 0 _ (desk (outbox c.ids.end.calls c.ids.end.outgoing) c.ids.passed.names.items) _ c.in-Some.fault
    c.ids-test.true c.ids.invariant.answered
    (rw (c.in-Some.is, fault, limits) at c.in_ok-fault.ensures.answers)

pub returns-clause-answers : goal.returns-clause-answers
returns-clause-answers c =
    let all : length c.args.ids.now ≤ c.ids.id-index = omega arith in
    sofar_all (AnswersOne (served_of c.args.serving) c.args.end.now.limits c.args.end.now.fault) c.args.ids.now c.ids.id-index
    (desk (outbox c.args.end.now.calls c.args.end.now.outgoing) c.args.passed.now.names.items)
    (desk (outbox c.ids.end.calls c.ids.end.outgoing) c.ids.passed.names.items) all c.ids.invariant.answered
