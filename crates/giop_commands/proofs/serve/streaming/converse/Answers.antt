use Rattle.std.proofs.Common.{◌∙◌, Some, None, refl}
use Rattle.giop_end.specs.Pumping.{between}
use Rattle.giop_commands.specs.Acts.{outbox}
use Rattle.giop_commands.specs.Serving.{desk, served_of, session}
use Rattle.giop_commands.specs.Streaming.{shown}
use Rattle.giop_commands.proofs.ActLemmas.{acted_on, same_fault, same_unread, turned_interface, turned_limits, turned_on}
use Rattle.giop_commands.proofs.ServingLemmas.{turn_answered}
use Rattle.giop_commands.proofs.StepLemmas.{counted_none, counted_more}
use Rattle.giop_commands.proofs.StreamingLemmas.{opened_by, streamed, told_on, turn_told, unfailed}
use Rattle.giop_commands.proofs.serve.streaming.converse.Goals as goal

pub turns-init : goal.turns-init
turns-init g c = record { streamed = counted_none _ _; others = refl }

pub answer_all-requires : goal.answer_all-requires
answer_all-requires g c =
    turned_interface c.turns.end c.goes_on.new.end c.goes_on.ensures.others
    ∙ turned_interface c.args.end.now c.turns.end c.turns.invariant.others ∙ c.requires

pub tell_over-requires : goal.tell_over-requires
tell_over-requires g c =
    same_fault c.goes_on.new.end c.answer_all.new.end c.answer_all.ensures.others
    ∙ unfailed _ _ _ (rw c.if-not-branch.false at c.in_ok-goes_on.ensures.goes)

pub turns-preserved : goal.turns-preserved
turns-preserved g c =
    let interface = turned_interface c.args.end.now c.turns.end c.turns.invariant.others ∙ c.requires in
    let limits = turned_limits c.turns.end c.goes_on.new.end c.goes_on.ensures.others
    ∙ turned_limits c.args.end.now c.turns.end c.turns.invariant.others in
    let unread = same_unread c.goes_on.new.end c.answer_all.new.end c.answer_all.ensures.others in
    let fault = same_fault c.goes_on.new.end c.answer_all.new.end c.answer_all.ensures.others in
    let s = between (g.R.Read.remaining c.turns.reader) (g.W.Write.contents c.turns.writer) c.turns.end.outgoing c.turns.end.framer c.turns.end.calls
    c.turns.end.fault in
    let mid = between (g.R.Read.remaining c.goes_on.new.reader) (g.W.Write.contents c.goes_on.new.writer) c.goes_on.new.end.outgoing
    c.goes_on.new.end.framer c.goes_on.new.end.calls c.goes_on.new.end.fault in
    let answered = between (g.R.Read.remaining c.goes_on.new.reader) (g.W.Write.contents c.goes_on.new.writer) c.answer_all.new.end.outgoing
    c.answer_all.new.end.framer c.answer_all.new.end.calls c.answer_all.new.end.fault in
    record {
      streamed = counted_more _ c.turns.done _ (shown (session s c.turns.passed.names.items) (g.O.Write.contents c.turns.out)) _ c.turns.invariant.streamed
          (turn_told (served_of c.args.serving) c.args.end.now.limits c.args.lines (session s c.turns.passed.names.items)
          (session answered c.answer_all.new.passed.names.items) _ (g.O.Write.contents c.turns.out) _
          (rw (unread, fault)
          (turn_answered (served_of c.args.serving) c.args.end.now.limits s mid c.turns.passed.names.items
          (desk (outbox c.answer_all.new.end.calls c.answer_all.new.end.outgoing) c.answer_all.new.passed.names.items) None
          (rw (c.if-not-branch.false, interface) at c.in_ok-goes_on.ensures.goes)
          (rw (c.in_default.is, limits) at c.in_ok-fault.ensures.answers)))
          c.in_ok-tell_over.ensures.text
          (opened_by c.answer_all.new.end c.tell_over.new.end _ _ c.in_ok-tell_over.ensures.left));
      others = turned_on c.args.end.now c.turns.end c.tell_over.new.end c.turns.invariant.others
          (turned_on c.turns.end c.goes_on.new.end c.tell_over.new.end c.goes_on.ensures.others
          (turned_on c.goes_on.new.end c.answer_all.new.end c.tell_over.new.end
          (acted_on c.goes_on.new.end c.answer_all.new.end c.answer_all.ensures.others)
          (told_on c.answer_all.new.end c.tell_over.new.end _ c.in_ok-tell_over.ensures.left)));
    }

pub returns-then-not-branch : goal.returns-then-not-branch
returns-then-not-branch g c =
    let interface = turned_interface c.args.end.now c.turns.end c.turns.invariant.others ∙ c.requires in
    let s = between (g.R.Read.remaining c.turns.reader) (g.W.Write.contents c.turns.writer) c.turns.end.outgoing c.turns.end.framer c.turns.end.calls
    c.turns.end.fault in
    streamed (served_of c.args.serving) c.args.end.now.limits c.args.lines c.turns.done _
    (shown (session s c.turns.passed.names.items) (g.O.Write.contents c.turns.out)) _ None
    c.turns.invariant.streamed c.turns-test.true (rw (c.if-not-branch.true, interface) at c.in_ok-goes_on.ensures.goes, refl)

pub returns-in-Some : goal.returns-in-Some
returns-in-Some g c =
    let interface = turned_interface c.args.end.now c.turns.end c.turns.invariant.others ∙ c.requires in
    let limits = turned_limits c.turns.end c.goes_on.new.end c.goes_on.ensures.others
    ∙ turned_limits c.args.end.now c.turns.end c.turns.invariant.others in
    let unread = same_unread c.goes_on.new.end c.answer_all.new.end c.answer_all.ensures.others in
    let fault = same_fault c.goes_on.new.end c.answer_all.new.end c.answer_all.ensures.others in
    let s = between (g.R.Read.remaining c.turns.reader) (g.W.Write.contents c.turns.writer) c.turns.end.outgoing c.turns.end.framer c.turns.end.calls
    c.turns.end.fault in
    let mid = between (g.R.Read.remaining c.goes_on.new.reader) (g.W.Write.contents c.goes_on.new.writer) c.goes_on.new.end.outgoing
    c.goes_on.new.end.framer c.goes_on.new.end.calls c.goes_on.new.end.fault in
    streamed (served_of c.args.serving) c.args.end.now.limits c.args.lines c.turns.done _
    (shown (session s c.turns.passed.names.items) (g.O.Write.contents c.turns.out)) _ (Some c.in-Some.fault)
    c.turns.invariant.streamed c.turns-test.true
    (rw (unread, fault)
    (turn_answered (served_of c.args.serving) c.args.end.now.limits s mid c.turns.passed.names.items
    (desk (outbox c.answer_all.new.end.calls c.answer_all.new.end.outgoing) c.answer_all.new.passed.names.items)
    (Some c.in-Some.fault) (rw (c.if-not-branch.false, interface) at c.in_ok-goes_on.ensures.goes)
    (rw (c.in-Some.is, limits) at c.in_ok-fault.ensures.answers)))
