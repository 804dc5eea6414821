use Rattle.std.proofs.Common.{◌≡◌, arith, refl, ap}
use Rattle.giop_table.specs.declared.plan.Plan.TheVariants.{Next}
use Rattle.giop_end.proofs.OnActs.ActedLemmas.{acted}
use Rattle.giop_end.proofs.OnActs.LastLemmas.{sends_none}
use Rattle.giop_end.proofs.acts.in_pieces.send.Goals as goal

pub returns-then-not-has_piece-clause-sent : goal.returns-then-not-has_piece-clause-sent
returns-then-not-has_piece-clause-sent g c =
    let h = c.args.calls.now in
    sends_none g.R.CallRule.next g.R.CallRule.closed g.R.Side.gathering g.R.SendsPieces.sends h c.args.id c.args.outgoing.now _
    (g.met.R.SendsPieces.sends_by h.rule)
    (first_of (cc (c.has_piece.ensures, c.if-not-has_piece.true), grind (arith, c.has_piece.ensures, c.if-not-has_piece.true))) refl

pub returns-clause-sent : goal.returns-clause-sent
returns-clause-sent g c =
    let h = c.args.calls.now in
    acted (g.R.CallRule.next h.rule) (g.R.CallRule.closed h.rule) g.R.Side.gathering
    (λ planned. planned ≡ record { event = g.R.SendsPieces.sends; plan = Next }) h c.put.new.calls c.args.id
    (record { event = c.next_piece.result; plan = Next }) c.args.outgoing.now c.put.new.outgoing c.put.result c.act_result.result
    (ap (λ event. record { event = event; plan = Next }) c.next_piece.ensures) c.put.ensures.does c.put.ensures.puts c.put.ensures.none
    c.act_result.ensures.returned c.act_result.ensures.want
