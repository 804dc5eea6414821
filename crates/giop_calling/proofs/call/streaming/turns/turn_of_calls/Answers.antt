use Rattle.std.proofs.Common.{◌∙◌, sym}
use Rattle.giop_end.specs.Ends.View.{end_between}
use Rattle.giop_commands.specs.Session.Acts.{outbox_of}
use Rattle.giop_calling.specs.Call.Calling.{asked_of}
use Rattle.giop_commands.proofs.OnSession.ActLemmas.{acted_on, same_fault, same_interface, same_unread, turned_on}
use Rattle.giop_calling.proofs.OnCall.StreamingLemmas.{course_told, ends_done, ends_off, ends_refused, opened_by, turn_unfailed, unfailed_by}
use Rattle.giop_commands.proofs.OnSession.StreamingLemmas.{told_on}
use Rattle.giop_calling.proofs.call.streaming.turns.turn_of_calls.Goals as goal

pub returns-then-branch-clause-goes : goal.returns-then-branch-clause-goes
returns-then-branch-clause-goes g c = λ all.
    ends_done (asked_of c.args.calling all) c.args.calling.lines
    (end_between (g.R.Read.remaining c.args.pipes.now.reader) (g.W.Write.contents c.args.pipes.now.writer) c.args.end.now)
    (g.O.Write.contents c.args.pipes.now.out)
    c.args.left.now.items c.args.well.now (sym c.in_ok-is_done.ensures ∙ c.if-branch.true)

pub returns-in-Some-clause-goes : goal.returns-in-Some-clause-goes
returns-in-Some-clause-goes g c = λ all.
    let unread = same_unread c.args.end.now c.call_next.new.end c.call_next.ensures.others in
    let fault = same_fault c.args.end.now c.call_next.new.end c.call_next.ensures.others in
    rw (unread, fault)
    (ends_refused (asked_of c.args.calling all) c.args.calling.lines
    (end_between (g.R.Read.remaining c.args.pipes.now.reader) (g.W.Write.contents c.args.pipes.now.writer) c.args.end.now) (outbox_of c.call_next.new.end)
    (g.O.Write.contents c.args.pipes.now.out) c.args.left.now.items c.call_next.new.left.items c.args.well.now c.in-Some.fault
    (sym c.in_ok-is_done.ensures ∙ c.if-branch.false) (rw c.in-Some.is at (c.in_ok-fault.ensures.calls all)))

pub returns-in-Some-clause-others : goal.returns-in-Some-clause-others
returns-in-Some-clause-others g c = acted_on c.args.end.now c.call_next.new.end c.call_next.ensures.others

pub returns-then-not-branch-clause-goes : goal.returns-then-not-branch-clause-goes
returns-then-not-branch-clause-goes g c = λ all.
    let unread = same_unread c.args.end.now c.call_next.new.end c.call_next.ensures.others in
    let fault = same_fault c.args.end.now c.call_next.new.end c.call_next.ensures.others in
    let interface = same_interface c.args.end.now c.call_next.new.end c.call_next.ensures.others ∙ c.requires.interface in
    ends_off (asked_of c.args.calling all) c.args.calling.lines
    (end_between (g.R.Read.remaining c.args.pipes.now.reader) (g.W.Write.contents c.args.pipes.now.writer) c.args.end.now) _ (outbox_of c.call_next.new.end)
    (g.O.Write.contents c.args.pipes.now.out) c.args.left.now.items c.call_next.new.left.items c.args.well.now
    (sym c.in_ok-is_done.ensures ∙ c.if-branch.false) (rw c.in_default.is at (c.in_ok-fault.ensures.calls all))
    (rw (c.if-not-branch.true, interface, unread, fault) at c.in_ok-take_turn.ensures.turns)

pub returns-then-not-branch-clause-others : goal.returns-then-not-branch-clause-others
returns-then-not-branch-clause-others g c =
    turned_on c.args.end.now c.call_next.new.end c.take_turn.new.end
    (acted_on c.args.end.now c.call_next.new.end c.call_next.ensures.others) c.take_turn.ensures.others

pub returns-clause-goes : goal.returns-clause-goes
returns-clause-goes g c = λ all.
    let unread = same_unread c.args.end.now c.call_next.new.end c.call_next.ensures.others in
    let fault = same_fault c.args.end.now c.call_next.new.end c.call_next.ensures.others in
    let interface = same_interface c.args.end.now c.call_next.new.end c.call_next.ensures.others ∙ c.requires.interface in
    course_told (asked_of c.args.calling all) c.args.calling.lines
    (end_between (g.R.Read.remaining c.args.pipes.now.reader) (g.W.Write.contents c.args.pipes.now.writer) c.args.end.now)
    (end_between (g.R.Read.remaining c.take_turn.new.reader) (g.W.Write.contents c.take_turn.new.writer) c.take_turn.new.end) _
    (outbox_of c.call_next.new.end) (g.O.Write.contents c.args.pipes.now.out) _ c.args.left.now.items c.call_next.new.left.items c.args.well.now _
    (sym c.in_ok-is_done.ensures ∙ c.if-branch.false) (rw c.in_default.is at (c.in_ok-fault.ensures.calls all))
    (rw (c.if-not-branch.false, interface, unread, fault) at c.in_ok-take_turn.ensures.turns) c.in_ok-well.ensures.text
    (opened_by c.take_turn.new.end c.tell_turn.new.end _ _ c.in_ok-well.ensures.left) c.in_ok-well.ensures.well

pub returns-clause-fault : goal.returns-clause-fault
returns-clause-fault g c = λ goes.
    let fault = same_fault c.args.end.now c.call_next.new.end c.call_next.ensures.others in
    unfailed_by c.take_turn.new.end c.tell_turn.new.end _ c.in_ok-well.ensures.left
    ∙ turn_unfailed _ _ (end_between (g.R.Read.remaining c.take_turn.new.reader) (g.W.Write.contents c.take_turn.new.writer) c.take_turn.new.end)
    (fault ∙ c.requires.fault) (rw c.if-not-branch.false at c.in_ok-take_turn.ensures.turns)

pub returns-clause-others : goal.returns-clause-others
returns-clause-others g c =
    turned_on c.args.end.now c.call_next.new.end c.tell_turn.new.end
    (acted_on c.args.end.now c.call_next.new.end c.call_next.ensures.others)
    (turned_on c.call_next.new.end c.take_turn.new.end c.tell_turn.new.end c.take_turn.ensures.others
    (told_on c.take_turn.new.end c.tell_turn.new.end _ c.in_ok-well.ensures.left))
