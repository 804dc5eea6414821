use Rattle.std.proofs.Common.{true, Ok, inr, length, refl, subst, sym, ap, ◌∙◌, ◌++◌}
use Rattle.giop_calls.specs.declared.server.event.ServerEvent.TheVariants as event
use Rattle.giop_calls.specs.ServerTable.{is_closed, is_gathering, server_step}
use Rattle.giop_ids.specs.Runs.{Does}
use Rattle.giop_table.specs.CallTable.{Answers, Hears, More, rules_of}
use Rattle.giop_frag.specs.Gathered.{is_over}
use Rattle.giop_end.specs.Hearing.Heard.{behind_id, silently}
use Rattle.giop_end.specs.Hearing.Decoding.{heard_call}
use Rattle.giop_end.proofs.OnHearing.ServerLemmas.{complete_refused, is_full, isnt_full}
use Rattle.giop_end.proofs.hearing.server.complete.Goals as goal

pub returns-then-not-has_room : goal.returns-then-not-has_room
returns-then-not-has_room c pieces is =
    let h = c.args.calls.now in
    let m = c.args.message.now in
    complete_refused h c.args.id c.args.kind (heard_call c.args.interface.now c.args.kind m.version m.order (pieces.octets ++ behind_id m))
    (behind_id m) c.requires.gathered
    (ap (λ octets. is_over h.room h.gathered (length octets)) (sym c.behind_id-octets.ensures)
    ∙ is_full _ (sym c.has_room.ensures.value ∙ c.if-not-has_room.true))

pub returns : goal.returns
returns c pieces is =
    let h = c.args.calls.now in
    let m = c.args.message.now in
    let planned = c.silently-last.ensures ∙ ap (λ call. silently (event.Last true call)) (c.in-Some.ensures pieces is) in
    let room = ap (λ octets. is_over h.room h.gathered (length octets)) (sym c.behind_id-octets.ensures)
    ∙ isnt_full _ (sym c.has_room.ensures.value ∙ c.if-not-has_room.false) in
    inr (
      Ok c.finish.result,
      subst (λ planned. Does (rules_of server_step is_closed is_gathering) h (record { id = c.args.id; what = Hears planned (More (behind_id m)) })
          (Ok (Answers c.finish.result)) c.finish.new.self) planned (c.finish.ensures (behind_id m) room),
      refl,
    )
