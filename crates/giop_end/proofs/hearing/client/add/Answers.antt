use Rattle.std.proofs.Common.{true, sym, ap, ◌∙◌}
use Rattle.std.specs.FinMap as finite
use Rattle.giop_calls.specs.declared.client.event.ClientEvent.TheVariants as event
use Rattle.giop_calls.specs.ClientTable.{client_step, is_closed, is_gathering}
use Rattle.giop_table.specs.CallTable.{answered}
use Rattle.giop_end.specs.Hearing.ClientHears.{gathered_call}
use Rattle.giop_end.specs.Hearing.Heard.{in_call, result_of, silent, silently}
use Rattle.giop_end.proofs.OnHearing.ClientLemmas.{continued_is, more_stays}
use Rattle.giop_end.proofs.OnHearing.PieceLemmas.{joined}
use Rattle.giop_end.proofs.hearing.client.add.Goals as goal

pub returns-in-Ok : goal.returns-in-Ok
returns-in-Ok c =
    let h = c.args.calls.now in
    let more = silently (event.More true) in
    let is = continued_is c.args.message.now.order (gathered_call (finite.get h.table c.args.id)) (finite.get h.gathered c.args.id) c.requires in
    joined client_step is_closed is_gathering h c.go_on.new.self c.args.id more c.behind_id.result.now _ c.go_on.result _
    (c.go_on.ensures more silent (more_stays (finite.get h.table c.args.id) is.0 is.2)) c.behind_id.ensures
    (ap (λ given. result_of (in_call c.args.id) (answered silent given)) (sym c.in-Ok.is))

pub returns-in-Err : goal.returns-in-Err
returns-in-Err c =
    let h = c.args.calls.now in
    let more = silently (event.More true) in
    let is = continued_is c.args.message.now.order (gathered_call (finite.get h.table c.args.id)) (finite.get h.gathered c.args.id) c.requires in
    joined client_step is_closed is_gathering h c.go_on.new.self c.args.id more c.behind_id.result.now _ c.go_on.result _
    (c.go_on.ensures more silent (more_stays (finite.get h.table c.args.id) is.0 is.2)) c.behind_id.ensures
    (c.result_of.ensures ∙ ap (λ given. result_of (in_call c.args.id) (answered silent given)) (sym c.in-Err.is))
