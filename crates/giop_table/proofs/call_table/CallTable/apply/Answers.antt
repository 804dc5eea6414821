use Rattle.std.proofs.Common.{◌≡◌, false, cond, None, Ok, sym, ap, subst, ◌∙◌, refl}
use Rattle.std.specs.FinMap as finite
use Rattle.giop_ids.specs.ById.{put}
use Rattle.giop_ids.proofs.Puts.{get-put_same}
use Rattle.giop_table.specs.Sending.{sending_step}
use Rattle.giop_table.specs.CallTable.{Held, gathers, Nothing}
use Rattle.giop_table.proofs.TableLemmas.{held, tied_after, as_many_blocks, kept, has_pieces, DoesSo, does_heard}
use Rattle.giop_table.proofs.call_table.CallTable.apply.Goals as goal

pub invariant_of-self-2 : goal.invariant_of-self-2
invariant_of-self-2 g c =
    let table = c.self.inside.mux.entries in
    let lists = c.self.inside.gather.lists in
    let step = sending_step (g.R.CallRule.next c.self.inside.mux.rule.rule) (finite.get table c.args.id) c.args.planned in
    let entries = ap (λ m. m.entries) c.in-Ok.ensures.ok in
    let gathers_is = ap (λ m. gathers g.R.Side.gathering (finite.get m c.args.id)) entries
    ∙ ap (gathers g.R.Side.gathering) (get-put_same table c.args.id step.entry) in
    record {
      tied = tied_after g.R.Side.gathering table _ lists _ c.args.id step.entry
          (cond (gathers g.R.Side.gathering step.entry) (finite.get lists c.args.id) None) c.self.invariant.tied entries
          (ap (λ g. g.lists) c.keep_if.ensures ∙ ap (put lists c.args.id) (c.is_kept.ensures ∙ ap (λ b. cond b (finite.get lists c.args.id) None) gathers_is))
          (kept (gathers g.R.Side.gathering step.entry) (finite.get lists c.args.id)
          (has_pieces (finite.get lists c.args.id) (gathers g.R.Side.gathering (finite.get table c.args.id)) (gathers g.R.Side.gathering step.entry)
          (c.self.invariant.tied c.args.id)
          (subst (λ (h : Held g.row.R.Denot g.row.R-Entry.Denot). gathers g.R.Side.gathering (finite.get h.table c.args.id) ≡ false
          → gathers g.R.Side.gathering (sending_step (g.R.CallRule.next h.rule) (finite.get h.table c.args.id) c.args.planned).entry ≡ false)
          (sym c.self.view_is) c.requires.quiet)));
      within = c.in-Ok.ensures.within;
      blocks = as_many_blocks g.R.Side.gathering c.self.inside.mux c.self.inside.gather _ _ _ c.self.invariant (ap (λ g. g.limit) c.keep_if.ensures)
          (ap (λ m. m.limit) c.in-Ok.ensures.ok) (ap (λ g. g.blocks) c.keep_if.ensures);
    }

pub returns : goal.returns
returns g c =
    let table = c.self.inside.mux.entries in
    let lists = c.self.inside.gather.lists in
    let step = sending_step (g.R.CallRule.next c.self.inside.mux.rule.rule) (finite.get table c.args.id) c.args.planned in
    let entries = ap (λ m. m.entries) c.in-Ok.ensures.ok in
    let gathers_is = ap (λ m. gathers g.R.Side.gathering (finite.get m c.args.id)) entries
    ∙ ap (gathers g.R.Side.gathering) (get-put_same table c.args.id step.entry) in
    let gathered = ap (λ g. g.lists) c.keep_if.ensures ∙ ap (put lists c.args.id)
    (c.is_kept.ensures ∙ ap (λ b. cond b (finite.get lists c.args.id) None) gathers_is) in
    let rule = ap (λ m. m.rule.rule) c.in-Ok.ensures.ok in
    let calls = ap (λ m. m.limit) c.in-Ok.ensures.ok in
    let room = ap (λ g. g.limit) c.keep_if.ensures in
    subst (λ (h : Held g.row.R.Denot g.row.R-Entry.Denot). DoesSo (g.R.CallRule.next h.rule) (g.R.CallRule.closed h.rule) g.R.Side.gathering h
    c.args.id c.args.planned Nothing (Ok c.in-Ok.answer) (held c.apply.new.self.rule.rule c.apply.new.self c.keep_if.new.gather)) c.self.view_is
    (does_heard (g.R.CallRule.next c.self.inside.mux.rule.rule) (g.R.CallRule.closed c.self.inside.mux.rule.rule) g.R.Side.gathering
    (held c.self.inside.mux.rule.rule c.self.inside.mux c.self.inside.gather) _ c.args.id c.args.planned
    Nothing c.in-Ok.answer c.in-Ok.ensures.value refl
    (λ i. record { rule = rule i; calls = calls i; room = room i; table = entries i; gathered = gathered i }))
