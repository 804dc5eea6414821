use Rattle.std.proofs.Common.{length, sym, ap, ◌∙◌, ◌++◌}
use Rattle.giop_frag.specs.Gathered.{is_over}
use Rattle.giop_session.specs.Hearing.Heard.{behind_id}
use Rattle.giop_session.specs.Hearing.Decoding.{heard_call}
use Rattle.giop_session.proofs.OnHearing.ServerLemmas.{complete_refused, is_full}
use Rattle.giop_session.proofs.hearing.server.complete.Goals as goal

pub returns-then-not-has_room : goal.returns-then-not-has_room
returns-then-not-has_room c pieces is =
    let h = c.args.calls.now in
    let m = c.args.message.now in
    complete_refused h c.args.id c.args.kind (heard_call c.args.interface.now c.args.kind m.version m.order (pieces.octets ++ behind_id m))
    (behind_id m) c.requires.gathered
    (ap (λ octets. is_over h.room h.gathered (length octets)) (sym c.behind_id-octets.ensures)
    ∙ is_full _ (sym c.has_room.ensures.value ∙ c.if-not-has_room.true))
