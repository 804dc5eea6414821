use Rattle.std.proofs.Common.{◌∙◌, Some, None, refl}
use Rattle.giop_end.specs.Pumping.{between}
use Rattle.giop_commands.specs.Acts.{outbox}
use Rattle.giop_commands.specs.Serving.{desk, served_of, session}
use Rattle.giop_commands.proofs.ActLemmas.{acted_on, same_fault, same_unread, turned_interface, turned_limits, turned_on}
use Rattle.giop_commands.proofs.ServingLemmas.{conversed, turn_answered}
use Rattle.giop_commands.proofs.StepLemmas.{counted_none, counted_more}
use Rattle.giop_commands.proofs.serve.converse.Goals as goal

pub turns-init : goal.turns-init
turns-init g c = record { served = counted_none _ _; others = refl }

pub answer_all-requires : goal.answer_all-requires
answer_all-requires g c =
    turned_interface c.turns.end c.goes_on.new.end c.goes_on.ensures.others
    ∙ turned_interface c.args.end.now c.turns.end c.turns.invariant.others ∙ c.requires

pub turns-preserved : goal.turns-preserved
turns-preserved g c =
    let interface = turned_interface c.args.end.now c.turns.end c.turns.invariant.others ∙ c.requires in
    let limits = turned_limits c.turns.end c.goes_on.new.end c.goes_on.ensures.others
    ∙ turned_limits c.args.end.now c.turns.end c.turns.invariant.others in
    let unread = same_unread c.goes_on.new.end c.answer_all.new.end c.answer_all.ensures.others in
    let fault = same_fault c.goes_on.new.end c.answer_all.new.end c.answer_all.ensures.others in
    let s = between (g.R.Read.remaining c.turns.reader) (g.W.Write.contents c.turns.writer) c.turns.end.outgoing c.turns.end.framer c.turns.end.calls
    c.turns.end.fault in
    let mid = between (g.R.Read.remaining c.goes_on.new.reader) (g.W.Write.contents c.goes_on.new.writer) c.goes_on.new.end.outgoing
    c.goes_on.new.end.framer c.goes_on.new.end.calls c.goes_on.new.end.fault in
    record {
      served = counted_more _ c.turns.done _ (session s c.turns.passed.names.items) _ c.turns.invariant.served
          (rw (unread, fault)
          (turn_answered (served_of c.args.serving) c.args.end.now.limits s mid c.turns.passed.names.items
          (desk (outbox c.answer_all.new.end.calls c.answer_all.new.end.outgoing) c.answer_all.new.passed.names.items) None
          (rw (c.if-not-branch.false, interface) at c.in_ok-goes_on.ensures.goes)
          (rw (c.in_default.is, limits) at c.in_ok-fault.ensures.answers)));
      others = turned_on c.args.end.now c.turns.end c.answer_all.new.end c.turns.invariant.others
          (turned_on c.turns.end c.goes_on.new.end c.answer_all.new.end c.goes_on.ensures.others
          (acted_on c.goes_on.new.end c.answer_all.new.end c.answer_all.ensures.others));
    }

pub returns-then-not-branch-clause-converses : goal.returns-then-not-branch-clause-converses
returns-then-not-branch-clause-converses g c =
    let interface = turned_interface c.args.end.now c.turns.end c.turns.invariant.others ∙ c.requires in
    let s = between (g.R.Read.remaining c.turns.reader) (g.W.Write.contents c.turns.writer) c.turns.end.outgoing c.turns.end.framer c.turns.end.calls
    c.turns.end.fault in
    conversed (served_of c.args.serving) c.args.end.now.limits c.turns.done _ (session s c.turns.passed.names.items) _ None c.turns.invariant.served
    c.turns-test.true (rw (c.if-not-branch.true, interface) at c.in_ok-goes_on.ensures.goes, refl)

pub returns-in-Some-clause-converses : goal.returns-in-Some-clause-converses
returns-in-Some-clause-converses g c =
    let interface = turned_interface c.args.end.now c.turns.end c.turns.invariant.others ∙ c.requires in
    let limits = turned_limits c.turns.end c.goes_on.new.end c.goes_on.ensures.others
    ∙ turned_limits c.args.end.now c.turns.end c.turns.invariant.others in
    let unread = same_unread c.goes_on.new.end c.answer_all.new.end c.answer_all.ensures.others in
    let fault = same_fault c.goes_on.new.end c.answer_all.new.end c.answer_all.ensures.others in
    let s = between (g.R.Read.remaining c.turns.reader) (g.W.Write.contents c.turns.writer) c.turns.end.outgoing c.turns.end.framer c.turns.end.calls
    c.turns.end.fault in
    let mid = between (g.R.Read.remaining c.goes_on.new.reader) (g.W.Write.contents c.goes_on.new.writer) c.goes_on.new.end.outgoing
    c.goes_on.new.end.framer c.goes_on.new.end.calls c.goes_on.new.end.fault in
    conversed (served_of c.args.serving) c.args.end.now.limits c.turns.done _ (session s c.turns.passed.names.items) _ (Some c.in-Some.fault)
    c.turns.invariant.served c.turns-test.true
    (rw (unread, fault)
    (turn_answered (served_of c.args.serving) c.args.end.now.limits s mid c.turns.passed.names.items
    (desk (outbox c.answer_all.new.end.calls c.answer_all.new.end.outgoing) c.answer_all.new.passed.names.items)
    (Some c.in-Some.fault) (rw (c.if-not-branch.false, interface) at c.in_ok-goes_on.ensures.goes)
    (rw (c.in-Some.is, limits) at c.in_ok-fault.ensures.answers)))
