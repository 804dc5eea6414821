use Rattle.std.proofs.Common.{◌≡◌, ◌<◌, Ok, Err, refl, sym, ap, subst, ◌∙◌, arith}
use Rattle.giop_session.specs.Hearing.Heard.{hears_by}
use Rattle.giop_session.specs.Pumping.{Pumped, Turned, between}
use Rattle.giop_session.proofs.PumpingLemmas.{SoFar, so_far_none, so_far_more, pumped_out, pumped_spent, pumped_away, passed_on, writes_on}
use Rattle.giop_session.proofs.pumping.pump.Goals as goal

pub turns-init : goal.turns-init
turns-init g c =
    let hears = hears_by g.R.CallRule.next g.R.CallRule.closed g.R.Side.gathering g.R.Hearing.in_call g.R.Hearing.breaks (g.R.Hearing.befalls c.args.end.now.interface.now) in
    let first = between (g.I.Read.remaining c.args.reader.now) (g.W.Write.contents c.args.writer.now) c.args.end.now.outgoing c.args.end.now.framer c.args.end.now.calls
    c.args.end.now.fault in
    record { so_far = so_far_none hears first; interface = refl; others = refl }

pub turns-preserved : goal.turns-preserved
turns-preserved g c =
    let hears = hears_by g.R.CallRule.next g.R.CallRule.closed g.R.Side.gathering g.R.Hearing.in_call g.R.Hearing.breaks (g.R.Hearing.befalls c.args.end.now.interface.now) in
    let first = between (g.I.Read.remaining c.args.reader.now) (g.W.Write.contents c.args.writer.now) c.args.end.now.outgoing c.args.end.now.framer c.args.end.now.calls
    c.args.end.now.fault in
    let now = between (g.I.Read.remaining c.turns.reader) (g.W.Write.contents c.turns.writer) c.turns.end.outgoing c.turns.end.framer c.turns.end.calls
    c.turns.end.fault in
    let after = between (g.I.Read.remaining c.turn.new.reader) (g.W.Write.contents c.turn.new.writer) c.turn.new.end.outgoing c.turn.new.end.framer
    c.turn.new.end.calls c.turn.new.end.fault in
    let n = c.in_ok-turn.field-0 in
    let some : 0 < n = omega (arith, c.if-branch-eq0.false) in
    let turned : Turned hears now (Ok n) after =
    subst (λ r. Turned hears now r after) c.in_ok-turn.was
    (subst (λ i. Turned (hears_by g.R.CallRule.next g.R.CallRule.closed g.R.Side.gathering g.R.Hearing.in_call g.R.Hearing.breaks (g.R.Hearing.befalls i)) now c.turn.result after)
    c.turns.invariant.interface c.turn.ensures.turned) in
    record {
      so_far = so_far_more hears c.turns.done n first now after c.turns.invariant.so_far turned some;
      interface = ap (λ e. e.interface.now) c.turn.ensures.others ∙ c.turns.invariant.interface;
      others = rw c.turns.invariant.others at c.turn.ensures.others;
    }

pub returns-in_err-turn-clause-pumped : goal.returns-in_err-turn-clause-pumped
returns-in_err-turn-clause-pumped g c =
    let hears = hears_by g.R.CallRule.next g.R.CallRule.closed g.R.Side.gathering g.R.Hearing.in_call g.R.Hearing.breaks (g.R.Hearing.befalls c.args.end.now.interface.now) in
    let first = between (g.I.Read.remaining c.args.reader.now) (g.W.Write.contents c.args.writer.now) c.args.end.now.outgoing c.args.end.now.framer c.args.end.now.calls
    c.args.end.now.fault in
    let now = between (g.I.Read.remaining c.turns.reader) (g.W.Write.contents c.turns.writer) c.turns.end.outgoing c.turns.end.framer c.turns.end.calls
    c.turns.end.fault in
    let after = between (g.I.Read.remaining c.turn.new.reader) (g.W.Write.contents c.turn.new.writer) c.turn.new.end.outgoing c.turn.new.end.framer
    c.turn.new.end.calls c.turn.new.end.fault in
    let why = c.in_err-turn.field-0.0 in
    let turned : Turned hears now (Err why) after =
    subst (λ r. Turned hears now r after) c.in_err-turn.was
    (subst (λ i. Turned (hears_by g.R.CallRule.next g.R.CallRule.closed g.R.Side.gathering g.R.Hearing.in_call g.R.Hearing.breaks (g.R.Hearing.befalls i)) now c.turn.result after)
    c.turns.invariant.interface c.turn.ensures.turned) in
    subst (λ r. Pumped hears c.args.turns first r after) (sym (passed_on c.from_residual.result why c.from_residual.ensures.1))
    (pumped_away hears c.args.turns c.turns.done first now after why c.turns.invariant.so_far c.turns-test.true turned)

pub returns-in_err-turn-clause-writes : goal.returns-in_err-turn-clause-writes
returns-in_err-turn-clause-writes g c =
    writes_on (g.W.Write.contents c.args.writer.now) (g.W.Write.contents c.turns.writer) (g.W.Write.contents c.turn.new.writer) c.args.end.now.outgoing
    c.turns.end.outgoing c.turn.new.end.outgoing c.turns.invariant.so_far.takes.writes c.turn.ensures.turned.writes

pub returns-then-branch-eq0-clause-pumped : goal.returns-then-branch-eq0-clause-pumped
returns-then-branch-eq0-clause-pumped g c =
    let hears = hears_by g.R.CallRule.next g.R.CallRule.closed g.R.Side.gathering g.R.Hearing.in_call g.R.Hearing.breaks (g.R.Hearing.befalls c.args.end.now.interface.now) in
    let first = between (g.I.Read.remaining c.args.reader.now) (g.W.Write.contents c.args.writer.now) c.args.end.now.outgoing c.args.end.now.framer c.args.end.now.calls
    c.args.end.now.fault in
    let now = between (g.I.Read.remaining c.turns.reader) (g.W.Write.contents c.turns.writer) c.turns.end.outgoing c.turns.end.framer c.turns.end.calls
    c.turns.end.fault in
    let after = between (g.I.Read.remaining c.turn.new.reader) (g.W.Write.contents c.turn.new.writer) c.turn.new.end.outgoing c.turn.new.end.framer
    c.turn.new.end.calls c.turn.new.end.fault in
    let n = c.in_ok-turn.field-0 in
    let none : n ≡ 0 = omega (arith, c.if-branch-eq0.true) in
    let turned : Turned hears now (Ok n) after =
    subst (λ r. Turned hears now r after) c.in_ok-turn.was
    (subst (λ i. Turned (hears_by g.R.CallRule.next g.R.CallRule.closed g.R.Side.gathering g.R.Hearing.in_call g.R.Hearing.breaks (g.R.Hearing.befalls i)) now c.turn.result after)
    c.turns.invariant.interface c.turn.ensures.turned) in
    pumped_out hears c.args.turns c.turns.done first now after c.turns.invariant.so_far c.turns-test.true
    (subst (λ k. Turned hears now (Ok k) after) none turned)

pub returns-then-branch-eq0-clause-writes : goal.returns-then-branch-eq0-clause-writes
returns-then-branch-eq0-clause-writes g c =
    writes_on (g.W.Write.contents c.args.writer.now) (g.W.Write.contents c.turns.writer) (g.W.Write.contents c.turn.new.writer) c.args.end.now.outgoing
    c.turns.end.outgoing c.turn.new.end.outgoing c.turns.invariant.so_far.takes.writes c.turn.ensures.turned.writes

pub returns-clause-pumped : goal.returns-clause-pumped
returns-clause-pumped g c =
    let hears = hears_by g.R.CallRule.next g.R.CallRule.closed g.R.Side.gathering g.R.Hearing.in_call g.R.Hearing.breaks (g.R.Hearing.befalls c.args.end.now.interface.now) in
    let first = between (g.I.Read.remaining c.args.reader.now) (g.W.Write.contents c.args.writer.now) c.args.end.now.outgoing c.args.end.now.framer c.args.end.now.calls
    c.args.end.now.fault in
    let now = between (g.I.Read.remaining c.turns.reader) (g.W.Write.contents c.turns.writer) c.turns.end.outgoing c.turns.end.framer c.turns.end.calls
    c.turns.end.fault in
    let all : c.turns.done ≡ c.args.turns = omega (arith, c.turns-test.false, c.turns.auto.done-end) in
    pumped_spent hears c.args.turns first now (subst (λ done. SoFar hears done first now) all c.turns.invariant.so_far)
