use Rattle.std.proofs.Common.{◌≡◌, ◌<◌, refl, ap, ◌∙◌, arith}
use Rattle.giop_end.proofs.PumpingLemmas.{so_far_none, so_far_more, pumped_out, pumped_spent, pumped_away, passed_on, writes_on}
use Rattle.giop_end.proofs.pumping.pump.Goals as goal

pub turns-init : goal.turns-init
turns-init g c = record { so_far = so_far_none _ _; interface = refl; others = refl }

pub turns-preserved : goal.turns-preserved
turns-preserved g c =
    let n = c.in_ok-turn.field-0 in
    let some : 0 < n = omega (arith, c.if-branch-eq0.false) in
    let turned = rw c.in_ok-turn.was at (rw c.turns.invariant.interface at c.turn.ensures.turned) in
    record {
      so_far = so_far_more _ c.turns.done n _ _ _ c.turns.invariant.so_far turned some;
      interface = ap (λ e. e.interface.now) c.turn.ensures.others ∙ c.turns.invariant.interface;
      others = rw c.turns.invariant.others at c.turn.ensures.others;
    }

pub returns-in_err-turn-clause-pumped : goal.returns-in_err-turn-clause-pumped
returns-in_err-turn-clause-pumped g c =
    let why = c.in_err-turn.field-0.0 in
    let turned = rw c.in_err-turn.was at (rw c.turns.invariant.interface at c.turn.ensures.turned) in
    rw (passed_on c.from_residual.result why c.from_residual.ensures.1)
    (pumped_away _ c.args.turns c.turns.done _ _ _ why c.turns.invariant.so_far c.turns-test.true turned)

pub returns-in_err-turn-clause-writes : goal.returns-in_err-turn-clause-writes
returns-in_err-turn-clause-writes g c =
    writes_on _ _ _ _ _ _ c.turns.invariant.so_far.takes.writes c.turn.ensures.turned.writes

pub returns-then-branch-eq0-clause-pumped : goal.returns-then-branch-eq0-clause-pumped
returns-then-branch-eq0-clause-pumped g c =
    let none : c.in_ok-turn.field-0 ≡ 0 = omega (arith, c.if-branch-eq0.true) in
    let turned = rw c.in_ok-turn.was at (rw c.turns.invariant.interface at c.turn.ensures.turned) in
    pumped_out _ c.args.turns c.turns.done _ _ _ c.turns.invariant.so_far c.turns-test.true (rw none at turned)

pub returns-then-branch-eq0-clause-writes : goal.returns-then-branch-eq0-clause-writes
returns-then-branch-eq0-clause-writes g c =
    writes_on _ _ _ _ _ _ c.turns.invariant.so_far.takes.writes c.turn.ensures.turned.writes

pub returns-clause-pumped : goal.returns-clause-pumped
returns-clause-pumped g c =
    let all : c.turns.done ≡ c.args.turns = omega (arith, c.turns-test.false, c.turns.auto.done-end) in
    pumped_spent _ c.args.turns _ _ (rw all at c.turns.invariant.so_far)
