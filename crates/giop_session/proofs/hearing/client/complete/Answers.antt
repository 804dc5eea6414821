use Rattle.std.proofs.Common.{◌≡◌, length, sym, ap, subst, ◌∙◌, ◌++◌, false, IsOk}
use Rattle.std.specs.FinMap as finite
use Rattle.giop_frag.specs.Gathered.{is_over}
use Rattle.giop_calls.specs.ClientTable.{client_step, is_gathering}
use Rattle.giop_session.specs.Hearing.Heard.{behind_id}
use Rattle.giop_session.specs.Calls.CallTable.{gathers}
use Rattle.giop_session.specs.Hearing.ClientHears.{gathered_call}
use Rattle.giop_session.specs.Calls.Sending.{sending_step}
use Rattle.giop_session.proofs.OnHearing.ClientLemmas.{complete_refused, continued_is, last_settles}
use Rattle.giop_session.proofs.OnHearing.ServerLemmas.{is_full}
use Rattle.giop_session.proofs.hearing.client.complete.Goals as goal

pub returns-then-not-has_room : goal.returns-then-not-has_room
returns-then-not-has_room c call pieces gathered there =
    let h = c.args.calls.now in
    let m = c.args.message.now in
    complete_refused h c.args.id call (behind_id m) c.args.interface.now m.version m.order (pieces.octets ++ behind_id m) gathered
    (ap (λ octets. is_over h.room h.gathered (length octets)) (sym c.behind_id-octets.ensures)
    ∙ is_full _ (sym c.has_room.ensures.value ∙ c.if-not-has_room.true))

pub complete-requires-clause-accepted : goal.complete-requires-clause-accepted
complete-requires-clause-accepted c =
    let h = c.args.calls.now in
    let m = c.args.message.now in
    let is = continued_is m.order (gathered_call (finite.get h.table c.args.id)) (finite.get h.gathered c.args.id) c.requires in
    let settles = last_settles c.args.interface.now m.version m.order (is.1.octets ++ behind_id m) (finite.get h.table c.args.id) is.0 c.in-Some.reply is.2
    (c.in-Some.ensures is.0 is.1 is.2 is.3) in
    subst (λ planned. IsOk (sending_step client_step (finite.get h.table c.args.id) planned).outcome) (sym c.kept-last.ensures) settles.0

pub complete-requires-clause-ends : goal.complete-requires-clause-ends
complete-requires-clause-ends c =
    let h = c.args.calls.now in
    let m = c.args.message.now in
    let is = continued_is m.order (gathered_call (finite.get h.table c.args.id)) (finite.get h.gathered c.args.id) c.requires in
    let settles = last_settles c.args.interface.now m.version m.order (is.1.octets ++ behind_id m) (finite.get h.table c.args.id) is.0 c.in-Some.reply is.2
    (c.in-Some.ensures is.0 is.1 is.2 is.3) in
    subst (λ planned. gathers is_gathering (sending_step client_step (finite.get h.table c.args.id) planned).entry ≡ false) (sym c.kept-last.ensures) settles.1
