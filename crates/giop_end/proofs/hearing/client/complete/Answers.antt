use Rattle.std.proofs.Common.{◌≡◌, length, sym, ap, subst, ◌∙◌, ◌++◌, false, IsOk, true, Ok, inr, refl}
use Rattle.std.specs.FinMap as finite
use Rattle.giop_frag.specs.Gathered.{is_over}
use Rattle.giop_calls.specs.declared.client.event.ClientEvent.TheVariants as event
use Rattle.giop_calls.specs.ClientTable.{client_step, is_closed, is_gathering}
use Rattle.giop_ids.specs.Runs.{Does}
use Rattle.giop_end.specs.Hearing.Heard.{behind_id, silently}
use Rattle.giop_table.specs.CallTable.{Answers, Hears, More, gathers, rules_of}
use Rattle.giop_end.specs.Hearing.ClientHears.{gathered_call}
use Rattle.giop_table.specs.Sending.{sending_step}
use Rattle.giop_end.proofs.OnHearing.ClientLemmas.{complete_refused, continued_is, last_settles}
use Rattle.giop_end.proofs.OnHearing.ServerLemmas.{is_full, isnt_full}
use Rattle.giop_end.proofs.hearing.client.complete.Goals as goal

pub returns-then-not-has_room : goal.returns-then-not-has_room
returns-then-not-has_room c call pieces gathered there =
    let h = c.args.calls.now in
    let m = c.args.message.now in
    complete_refused h c.args.id call (behind_id m) c.args.interface.now m.version m.order (pieces.octets ++ behind_id m) gathered
    (ap (λ octets. is_over h.room h.gathered (length octets)) (sym c.behind_id-octets.ensures)
    ∙ is_full _ (sym c.has_room.ensures.value ∙ c.if-not-has_room.true))

pub finish-requires-clause-accepted : goal.finish-requires-clause-accepted
finish-requires-clause-accepted c =
    let h = c.args.calls.now in
    let m = c.args.message.now in
    let is = continued_is m.order (gathered_call (finite.get h.table c.args.id)) (finite.get h.gathered c.args.id) c.requires in
    let settles = last_settles c.args.interface.now m.version m.order (is.1.octets ++ behind_id m) (finite.get h.table c.args.id) is.0 c.in-Some.reply is.2
    (c.in-Some.ensures is.0 is.1 is.2 is.3) in
    subst (λ planned. IsOk (sending_step client_step (finite.get h.table c.args.id) planned).outcome) (sym c.silently-last.ensures) settles.0

pub finish-requires-clause-ends : goal.finish-requires-clause-ends
finish-requires-clause-ends c =
    let h = c.args.calls.now in
    let m = c.args.message.now in
    let is = continued_is m.order (gathered_call (finite.get h.table c.args.id)) (finite.get h.gathered c.args.id) c.requires in
    let settles = last_settles c.args.interface.now m.version m.order (is.1.octets ++ behind_id m) (finite.get h.table c.args.id) is.0 c.in-Some.reply is.2
    (c.in-Some.ensures is.0 is.1 is.2 is.3) in
    subst (λ planned. gathers is_gathering (sending_step client_step (finite.get h.table c.args.id) planned).entry ≡ false)
    (sym c.silently-last.ensures) settles.1

pub returns : goal.returns
returns c call pieces gathered there =
    let h = c.args.calls.now in
    let m = c.args.message.now in
    let planned = c.silently-last.ensures ∙ ap (λ reply. silently (event.Last true reply)) (c.in-Some.ensures call pieces gathered there) in
    let room = ap (λ octets. is_over h.room h.gathered (length octets)) (sym c.behind_id-octets.ensures)
    ∙ isnt_full _ (sym c.has_room.ensures.value ∙ c.if-not-has_room.false) in
    inr (
      Ok c.finish.result,
      subst (λ planned. Does (rules_of client_step is_closed is_gathering) h (record { id = c.args.id; what = Hears planned (More (behind_id m)) })
          (Ok (Answers c.finish.result)) c.finish.new.self) planned (c.finish.ensures (behind_id m) room),
      refl,
    )
