use Rattle.std.proofs.Common.{◌≡◌, false, length, IsOk, Ok, refl, sym, ap, subst, ◌∙◌, ◌++◌}
use Rattle.std.specs.FinMap as finite
use Rattle.giop_frag.specs.Gathered.{is_over}
use Rattle.giop_table.specs.CallTable.{More, gathers}
use Rattle.giop_table.specs.Sending.{sending_step}
use Rattle.giop_table.proofs.TableLemmas.{DoesSo}
use Rattle.giop_end.specs.Hearing.Heard.{behind_id, silently}
use Rattle.giop_end.proofs.OnHearing.EventLemmas.{event_heard}
use Rattle.giop_end.proofs.OnHearing.PieceLemmas.{complete_refused, continues_here, is_full, isnt_full, known_gathers, last_accepted, last_ends}
use Rattle.giop_end.proofs.hearing.pieces.complete.Goals as goal

pub returns-then-not-has_room : goal.returns-then-not-has_room
returns-then-not-has_room g c known pieces knows holds =
    let h = c.args.calls.now in
    let m = c.args.message.now in
    complete_refused (g.R.CallRule.next h.rule) (g.R.CallRule.closed h.rule) g.R.Side.gathering g.R.Joins.pieces (g.met.R.Joins.joins h.rule)
    h c.args.id c.args.interface.now known m pieces.octets knows
    (ap (λ octets. is_over h.room h.gathered (length octets)) (sym c.behind_id.ensures)
    ∙ is_full _ (sym c.has_room.ensures.value ∙ c.if-not-has_room.true))

pub finish-requires-clause-comes : goal.finish-requires-clause-comes
finish-requires-clause-comes g c =
    let h = c.args.calls.now in
    let is = continues_here g.R.Joins.pieces h c.args.id c.args.message.now.order c.requires in
    known_gathers (g.R.CallRule.next h.rule) (g.R.CallRule.closed h.rule) g.R.Side.gathering g.R.Joins.pieces (g.met.R.Joins.joins h.rule)
    (finite.get h.table c.args.id) is.one is.knows

pub finish-requires-clause-accepted : goal.finish-requires-clause-accepted
finish-requires-clause-accepted g c =
    let h = c.args.calls.now in
    let m = c.args.message.now in
    let is = continues_here g.R.Joins.pieces h c.args.id m.order c.requires in
    let next = g.R.CallRule.next h.rule in
    subst (λ planned. IsOk (sending_step next (finite.get h.table c.args.id) planned).outcome)
    (sym (c.silently.ensures ∙ ap silently (c.last.ensures ∙ ap g.R.Joins.pieces.last (c.in-Some.ensures is.one is.held is.knows is.holds))))
    (last_accepted next (g.R.CallRule.closed h.rule) g.R.Side.gathering g.R.Joins.pieces (g.met.R.Joins.joins h.rule) c.args.interface.now is.one m
    (is.held.octets ++ behind_id m) (finite.get h.table c.args.id) is.knows)

pub finish-requires-clause-ends : goal.finish-requires-clause-ends
finish-requires-clause-ends g c =
    let h = c.args.calls.now in
    let m = c.args.message.now in
    let is = continues_here g.R.Joins.pieces h c.args.id m.order c.requires in
    let next = g.R.CallRule.next h.rule in
    subst (λ planned. gathers g.R.Side.gathering (sending_step next (finite.get h.table c.args.id) planned).entry ≡ false)
    (sym (c.silently.ensures ∙ ap silently (c.last.ensures ∙ ap g.R.Joins.pieces.last (c.in-Some.ensures is.one is.held is.knows is.holds))))
    (last_ends next (g.R.CallRule.closed h.rule) g.R.Side.gathering g.R.Joins.pieces (g.met.R.Joins.joins h.rule) c.args.interface.now is.one m
    (is.held.octets ++ behind_id m) (finite.get h.table c.args.id) is.knows)

pub returns : goal.returns
returns g c known pieces knows holds =
    let h = c.args.calls.now in
    let m = c.args.message.now in
    let next = g.R.CallRule.next h.rule in
    let closed = g.R.CallRule.closed h.rule in
    let planned = c.silently.ensures ∙ ap silently (c.last.ensures ∙ ap g.R.Joins.pieces.last (c.in-Some.ensures known pieces knows holds)) in
    let room = ap (λ octets. is_over h.room h.gathered (length octets)) (sym c.behind_id.ensures)
    ∙ isnt_full _ (sym c.has_room.ensures.value ∙ c.if-not-has_room.false) in
    event_heard next closed g.R.Side.gathering h c.finish.new.self c.args.id _ (More (behind_id m)) (Ok c.finish.result) (Ok tt)
    (subst (λ planned. DoesSo next closed g.R.Side.gathering h c.args.id planned (More (behind_id m)) (Ok c.finish.result) c.finish.new.self)
    planned (c.finish.ensures (behind_id m) room)) refl
