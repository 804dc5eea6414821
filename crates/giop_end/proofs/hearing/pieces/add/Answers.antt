use Rattle.std.proofs.Common.{sym, ap, ◌∙◌}
use Rattle.std.specs.FinMap as finite
use Rattle.giop_table.specs.CallTable.{answered}
use Rattle.giop_end.specs.Hearing.Heard.{in_call, result_of, silently}
use Rattle.giop_end.proofs.OnHearing.PieceLemmas.{continues_here, in_order, joined, known_gathers, more_stays}
use Rattle.giop_end.proofs.hearing.pieces.add.Goals as goal

pub go_on-requires-clause-comes : goal.go_on-requires-clause-comes
go_on-requires-clause-comes g c =
    let h = c.args.calls.now in
    let is = continues_here g.R.Joins.pieces h c.args.id c.args.message.now.order c.requires in
    known_gathers (g.R.CallRule.next h.rule) (g.R.CallRule.closed h.rule) g.R.Side.gathering g.R.Joins.pieces (g.met.R.Joins.joins h.rule)
    (finite.get h.table c.args.id) is.one is.knows

pub go_on-requires-clause-in_order : goal.go_on-requires-clause-in_order
go_on-requires-clause-in_order g c =
    let h = c.args.calls.now in
    let is = continues_here g.R.Joins.pieces h c.args.id c.args.message.now.order c.requires in
    in_order is

pub returns-in-Ok : goal.returns-in-Ok
returns-in-Ok g c =
    let h = c.args.calls.now in
    let is = continues_here g.R.Joins.pieces h c.args.id c.args.message.now.order c.requires in
    let next = g.R.CallRule.next h.rule in
    let closed = g.R.CallRule.closed h.rule in
    let joins = g.met.R.Joins.joins h.rule in
    joined next closed g.R.Side.gathering g.R.Joins.pieces joins h c.go_on.new.self c.args.id c.args.message.now c.behind_id.result.now c.go_on.result _
    (c.go_on.ensures (silently g.R.Joins.pieces.more) tt
    (more_stays next closed g.R.Side.gathering g.R.Joins.pieces joins (finite.get h.table c.args.id) is.one is.knows)) c.behind_id.ensures
    (ap (λ given. result_of (in_call c.args.id) (answered tt given)) (sym c.in-Ok.is))

pub returns-in-Err : goal.returns-in-Err
returns-in-Err g c =
    let h = c.args.calls.now in
    let is = continues_here g.R.Joins.pieces h c.args.id c.args.message.now.order c.requires in
    let next = g.R.CallRule.next h.rule in
    let closed = g.R.CallRule.closed h.rule in
    let joins = g.met.R.Joins.joins h.rule in
    joined next closed g.R.Side.gathering g.R.Joins.pieces joins h c.go_on.new.self c.args.id c.args.message.now c.behind_id.result.now c.go_on.result _
    (c.go_on.ensures (silently g.R.Joins.pieces.more) tt
    (more_stays next closed g.R.Side.gathering g.R.Joins.pieces joins (finite.get h.table c.args.id) is.one is.knows)) c.behind_id.ensures
    (c.result_of.ensures ∙ ap (λ given. result_of (in_call c.args.id) (answered tt given)) (sym c.in-Err.is))
