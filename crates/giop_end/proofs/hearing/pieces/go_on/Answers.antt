use Rattle.std.proofs.Common.{◌≡◌, false, sym, ap, subst, ◌∙◌}
use Rattle.std.specs.FinMap as finite
use Rattle.giop_table.specs.CallTable.{gathers, rules_of}
use Rattle.giop_table.specs.Sending.{sending_step}
use Rattle.giop_end.specs.Hearing.Heard.{ActsOn, IsHeard, act_on_named, in_call, silently}
use Rattle.giop_end.specs.Hearing.Pieces.{continues, continues_at}
use Rattle.giop_end.proofs.OnHearing.PieceLemmas.{continues_here, continues_last, stray_quiet}
use Rattle.giop_end.proofs.hearing.pieces.go_on.Goals as goal

pub happen-requires : goal.happen-requires
happen-requires g c = record {
  quiet = λ idle.
      let h = c.args.calls.now in
      let next = g.R.CallRule.next h.rule in
      subst (λ event. gathers g.R.Side.gathering (sending_step next (finite.get h.table c.in_ok-id.id) (silently event)).entry ≡ false)
      (sym c.stray.ensures)
      (stray_quiet next (g.R.CallRule.closed h.rule) g.R.Side.gathering g.R.Joins.pieces (g.met.R.Joins.joins h.rule)
      (finite.get h.table c.in_ok-id.id) c.args.message.now idle);
}

pub returns-in-true-false : goal.returns-in-true-false
returns-in-true-false g c =
    let h = c.args.calls.now in
    let m = c.args.message.now in
    let id = c.in_ok-id.id in
    let is = continues_here g.R.Joins.pieces h id m.order (sym c.in-true-false.ensures) in
    let act = ap (continues g.R.Joins.pieces c.args.interface.now m) is.is
    ∙ continues_last (g.R.CallRule.next h.rule) (g.R.CallRule.closed h.rule) g.R.Side.gathering g.R.Joins.pieces (g.met.R.Joins.joins h.rule)
    c.args.interface.now m is.one is.held.octets c.in-true-false.is-1 in
    subst (λ heard. IsHeard (rules_of (g.R.CallRule.next h.rule) (g.R.CallRule.closed h.rule) g.R.Side.gathering) in_call heard h c.complete.result
    c.complete.new.calls)
    (sym (ap (λ r. act_on_named r (continues_at g.R.Joins.pieces c.args.interface.now m h)) (sym c.in_ok-id.ensures) ∙ ap (ActsOn id) act))
    (c.complete.ensures is.one is.held is.knows is.holds)
