use Rattle.std.proofs.Common.{◌≡◌, ℕ, ◌+◌, ◌∷◌, [], get_or, map, max, take, sym, ap, ◌∙◌}
use Rattle.std.proofs.lemmas.List.{map-append, take_more}
use Rattle.giop_end.specs.Hearing.Heard.{in_call}
use Rattle.giop_commands.specs.Session.Acts.{left_at, most}
use Rattle.giop_commands.proofs.OnSession.ActLemmas.{most_more}
use Rattle.giop_commands.proofs.session.sending.most_left.Goals as goal

pub loop-id-preserved : goal.loop-id-preserved
loop-id-preserved g c =
    let left : ℕ → ℕ =
    left_at g.R.CallRule.next g.R.CallRule.closed g.R.Side.gathering in_call g.R.SendsPieces.sends c.args.end.now.fault g.R.Sender.left_in
    c.args.end.now.calls in
    let i = c.loop-id.id-index in
    let one : most (map left (take (i + 1) c.args.ids.now)) ≡ max (most (map left (take i c.args.ids.now))) (left (get_or c.args.ids.now i 0)) =
    ap (λ l. most (map left l)) (take_more c.args.ids.now i 0 c.loop-id-test.true)
    ∙ ap most (map-append left (take i c.args.ids.now) (get_or c.args.ids.now i 0 ∷ []))
    ∙ most_more (map left (take i c.args.ids.now)) (left (get_or c.args.ids.now i 0)) in
    c.greater-most.ensures ∙ ap (λ n. max n c.left_of.result) c.loop-id.invariant
    ∙ ap (λ n. max (most (map left (take i c.args.ids.now))) n) c.left_of.ensures ∙ sym one
