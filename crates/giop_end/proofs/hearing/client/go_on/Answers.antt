use Rattle.std.proofs.Common.{sym, ap, subst, ◌∙◌}
use Rattle.std.specs.FinMap as finite
use Rattle.giop_end.specs.Hearing.ClientHears.{AtClient, gathered_call, client_pieces}
use Rattle.giop_end.specs.Hearing.Pieces.{continued, continues}
use Rattle.giop_end.specs.Hearing.Heard.{ActsOn, act_on_named}
use Rattle.giop_end.proofs.OnHearing.ClientLemmas.{continued_is, continues_last}
use Rattle.giop_end.proofs.hearing.client.go_on.Goals as goal

pub returns-in-true-false : goal.returns-in-true-false
returns-in-true-false c =
    let h = c.args.calls.now in
    let m = c.args.message.now in
    let id = c.in_ok-id.id in
    let is = continued_is m.order (gathered_call (finite.get h.table id)) (finite.get h.gathered id) (sym c.in-true-false.ensures) in
    let act = ap (continues client_pieces c.args.interface.now m) is.4 ∙ continues_last c.args.interface.now m is.0 is.1.octets c.in-true-false.is-1 in
    subst (λ heard. AtClient heard h c.complete.result c.complete.new.calls)
    (sym (ap (λ r. act_on_named r (λ q. continues client_pieces c.args.interface.now m
    (continued m.order (gathered_call (finite.get h.table q)) (finite.get h.gathered q))))
    (sym c.in_ok-id.ensures) ∙ ap (ActsOn id) act))
    (c.complete.ensures is.0 is.1 is.2 is.3)
