use Rattle.std.proofs.Common.{◌∙◌, Some, None, refl}
use Rattle.giop_end.specs.Ends.View.{end_between}
use Rattle.giop_serving.specs.Serve.Serving.{desk_at, served_of}
use Rattle.giop_commands.proofs.OnSession.ActLemmas.{acted_on, same_fault, same_unread, turned_interface, turned_limits, turned_on}
use Rattle.giop_serving.proofs.OnServe.ServingLemmas.{turn_answered}
use Rattle.giop_commands.proofs.OnSession.StreamingLemmas.{unfailed}
use Rattle.giop_serving.proofs.serve.turns.turn_of_answers.Goals as goal

pub answer_all-requires : goal.answer_all-requires
answer_all-requires g c = turned_interface c.args.end.now c.goes_on.new.end c.goes_on.ensures.others ∙ c.requires

pub returns-then-not-branch-clause-goes : goal.returns-then-not-branch-clause-goes
returns-then-not-branch-clause-goes g c = (rw (c.if-not-branch.true, c.requires) at c.in_ok-goes_on.ensures.goes, refl)

pub returns-in-Some-clause-goes : goal.returns-in-Some-clause-goes
returns-in-Some-clause-goes g c =
    let limits = turned_limits c.args.end.now c.goes_on.new.end c.goes_on.ensures.others in
    let unread = same_unread c.goes_on.new.end c.answer_all.new.end c.answer_all.ensures.others in
    let fault = same_fault c.goes_on.new.end c.answer_all.new.end c.answer_all.ensures.others in
    rw (unread, fault)
    (turn_answered (served_of c.args.serving) c.args.end.now.limits
    (end_between (g.R.Read.remaining c.args.pipes.now.reader) (g.W.Write.contents c.args.pipes.now.writer) c.args.end.now)
    (end_between (g.R.Read.remaining c.goes_on.new.reader) (g.W.Write.contents c.goes_on.new.writer) c.goes_on.new.end)
    c.args.passed.now.names.items (desk_at c.answer_all.new.end c.answer_all.new.passed) (Some c.in-Some.fault)
    (rw (c.if-not-branch.false, c.requires) at c.in_ok-goes_on.ensures.goes) (rw (c.in-Some.is, limits) at c.in_ok-fault.ensures.answers))

pub returns-in-Some-clause-others : goal.returns-in-Some-clause-others
returns-in-Some-clause-others g c =
    turned_on c.args.end.now c.goes_on.new.end c.answer_all.new.end c.goes_on.ensures.others
    (acted_on c.goes_on.new.end c.answer_all.new.end c.answer_all.ensures.others)

pub returns-clause-goes : goal.returns-clause-goes
returns-clause-goes g c =
    let limits = turned_limits c.args.end.now c.goes_on.new.end c.goes_on.ensures.others in
    let unread = same_unread c.goes_on.new.end c.answer_all.new.end c.answer_all.ensures.others in
    let fault = same_fault c.goes_on.new.end c.answer_all.new.end c.answer_all.ensures.others in
    rw (unread, fault)
    (turn_answered (served_of c.args.serving) c.args.end.now.limits
    (end_between (g.R.Read.remaining c.args.pipes.now.reader) (g.W.Write.contents c.args.pipes.now.writer) c.args.end.now)
    (end_between (g.R.Read.remaining c.goes_on.new.reader) (g.W.Write.contents c.goes_on.new.writer) c.goes_on.new.end)
    c.args.passed.now.names.items (desk_at c.answer_all.new.end c.answer_all.new.passed) None
    (rw (c.if-not-branch.false, c.requires) at c.in_ok-goes_on.ensures.goes) (rw (c.in_default.is, limits) at c.in_ok-fault.ensures.answers))

pub returns-clause-sound : goal.returns-clause-sound
returns-clause-sound g c = λ goes.
    same_fault c.goes_on.new.end c.answer_all.new.end c.answer_all.ensures.others
    ∙ unfailed _ _ _ (rw c.if-not-branch.false at c.in_ok-goes_on.ensures.goes)

pub returns-clause-others : goal.returns-clause-others
returns-clause-others g c =
    turned_on c.args.end.now c.goes_on.new.end c.answer_all.new.end c.goes_on.ensures.others
    (acted_on c.goes_on.new.end c.answer_all.new.end c.answer_all.ensures.others)
