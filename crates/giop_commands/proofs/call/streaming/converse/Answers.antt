use Rattle.std.proofs.Common.{◌∙◌, Some, None, sym, ap}
use Rattle.giop_end.specs.Pumping.{between}
use Rattle.giop_commands.specs.Acts.{outbox}
use Rattle.giop_commands.specs.Calling.{asked_of}
use Rattle.giop_commands.specs.CallStreaming.{course}
use Rattle.giop_commands.proofs.ActLemmas.{acted_on, same_fault, same_interface, same_unread, turned_interface, turned_on}
use Rattle.giop_commands.proofs.CallStreamingLemmas.{course_told, ends_done, ends_off, ends_refused, opened_by, streamed, turn_unfailed, unfailed_by}
use Rattle.giop_commands.proofs.StepLemmas.{counted_more}
use Rattle.giop_commands.proofs.StreamingLemmas.{told_on}
use Rattle.giop_commands.proofs.call.streaming.converse.Goals as goal

pub returns-then-branch : goal.returns-then-branch
returns-then-branch g c =
    let s = between (g.R.Read.remaining c.turns.reader) (g.W.Write.contents c.turns.writer) c.turns.end.outgoing c.turns.end.framer c.turns.end.calls
    c.turns.end.fault in
    streamed (asked_of c.args.calling c.args.left.now.items) c.args.lines c.turns.done _
    (course s (g.O.Write.contents c.turns.out) c.turns.left.items c.turns.well) _
    None c.turns.invariant.streamed c.turns-test.true
    (ends_done (asked_of c.args.calling c.args.left.now.items) c.args.lines s (g.O.Write.contents c.turns.out) c.turns.left.items c.turns.well
    (sym c.in_ok-is_done.ensures ∙ c.if-branch.true))

pub returns-in-Some : goal.returns-in-Some
returns-in-Some g c =
    let unread = same_unread c.turns.end c.call_next.new.end c.call_next.ensures.others in
    let fault = same_fault c.turns.end c.call_next.new.end c.call_next.ensures.others in
    let s = between (g.R.Read.remaining c.turns.reader) (g.W.Write.contents c.turns.writer) c.turns.end.outgoing c.turns.end.framer c.turns.end.calls
    c.turns.end.fault in
    streamed (asked_of c.args.calling c.args.left.now.items) c.args.lines c.turns.done _
    (course s (g.O.Write.contents c.turns.out) c.turns.left.items c.turns.well) _
    (Some c.in-Some.fault) c.turns.invariant.streamed c.turns-test.true
    (rw (unread, fault)
    (ends_refused (asked_of c.args.calling c.args.left.now.items) c.args.lines s (outbox c.call_next.new.end.calls c.call_next.new.end.outgoing)
    (g.O.Write.contents c.turns.out) c.turns.left.items c.call_next.new.left.items c.turns.well c.in-Some.fault
    (sym c.in_ok-is_done.ensures ∙ c.if-branch.false) (rw c.in-Some.is at (c.in_ok-fault.ensures.calls c.args.left.now.items))))

pub returns-then-not-branch : goal.returns-then-not-branch
returns-then-not-branch g c =
    let unread = same_unread c.turns.end c.call_next.new.end c.call_next.ensures.others in
    let fault = same_fault c.turns.end c.call_next.new.end c.call_next.ensures.others in
    let interface = same_interface c.turns.end c.call_next.new.end c.call_next.ensures.others
    ∙ turned_interface c.args.end.now c.turns.end c.turns.invariant.others ∙ c.requires.interface in
    let s = between (g.R.Read.remaining c.turns.reader) (g.W.Write.contents c.turns.writer) c.turns.end.outgoing c.turns.end.framer c.turns.end.calls
    c.turns.end.fault in
    streamed (asked_of c.args.calling c.args.left.now.items) c.args.lines c.turns.done _
    (course s (g.O.Write.contents c.turns.out) c.turns.left.items c.turns.well) _
    None c.turns.invariant.streamed c.turns-test.true
    (ends_off (asked_of c.args.calling c.args.left.now.items) c.args.lines s _ (outbox c.call_next.new.end.calls c.call_next.new.end.outgoing)
    (g.O.Write.contents c.turns.out) c.turns.left.items c.call_next.new.left.items c.turns.well
    (sym c.in_ok-is_done.ensures ∙ c.if-branch.false) (rw c.in_default.is at (c.in_ok-fault.ensures.calls c.args.left.now.items))
    (rw (c.if-not-branch.true, interface, unread, fault) at c.in_ok-take_turn.ensures.turns))

pub turns-preserved : goal.turns-preserved
turns-preserved g c =
    let unread = same_unread c.turns.end c.call_next.new.end c.call_next.ensures.others in
    let fault = same_fault c.turns.end c.call_next.new.end c.call_next.ensures.others in
    let interface = same_interface c.turns.end c.call_next.new.end c.call_next.ensures.others
    ∙ turned_interface c.args.end.now c.turns.end c.turns.invariant.others ∙ c.requires.interface in
    let s = between (g.R.Read.remaining c.turns.reader) (g.W.Write.contents c.turns.writer) c.turns.end.outgoing c.turns.end.framer c.turns.end.calls
    c.turns.end.fault in
    let mid = between (g.R.Read.remaining c.take_turn.new.reader) (g.W.Write.contents c.take_turn.new.writer) c.take_turn.new.end.outgoing
    c.take_turn.new.end.framer c.take_turn.new.end.calls c.take_turn.new.end.fault in
    record {
      streamed = counted_more _ c.turns.done _ (course s (g.O.Write.contents c.turns.out) c.turns.left.items c.turns.well) _ c.turns.invariant.streamed
          (course_told (asked_of c.args.calling c.args.left.now.items) c.args.lines s mid _ (outbox c.call_next.new.end.calls c.call_next.new.end.outgoing)
          (g.O.Write.contents c.turns.out) _ c.turns.left.items c.call_next.new.left.items c.turns.well _
          (sym c.in_ok-is_done.ensures ∙ c.if-branch.false) (rw c.in_default.is at (c.in_ok-fault.ensures.calls c.args.left.now.items))
          (rw (c.if-not-branch.false, interface, unread, fault) at c.in_ok-take_turn.ensures.turns) c.in_ok-well.ensures.text
          (opened_by c.take_turn.new.end c.tell_turn.new.end _ _ c.in_ok-well.ensures.left) c.in_ok-well.ensures.well);
      fault = unfailed_by c.take_turn.new.end c.tell_turn.new.end _ c.in_ok-well.ensures.left
          ∙ turn_unfailed _ _ mid (fault ∙ c.turns.invariant.fault) (rw c.if-not-branch.false at c.in_ok-take_turn.ensures.turns);
      others = turned_on c.args.end.now c.turns.end c.tell_turn.new.end c.turns.invariant.others
          (turned_on c.turns.end c.call_next.new.end c.tell_turn.new.end
          (acted_on c.turns.end c.call_next.new.end c.call_next.ensures.others)
          (turned_on c.call_next.new.end c.take_turn.new.end c.tell_turn.new.end c.take_turn.ensures.others
          (told_on c.take_turn.new.end c.tell_turn.new.end _ c.in_ok-well.ensures.left)));
    }
