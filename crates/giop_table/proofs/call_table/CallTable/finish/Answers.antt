use Rattle.std.proofs.Common.{◌≡◌, false, None, sym, ap, subst}
use Rattle.std.specs.FinMap as finite
use Rattle.giop_table.specs.Sending.{sending_step}
use Rattle.giop_table.specs.CallTable.{Held, gathers}
use Rattle.giop_table.proofs.TableLemmas.{tied_after, as_many_blocks}
use Rattle.giop_table.proofs.call_table.CallTable.finish.Goals as goal

pub invariant_of-self : goal.invariant_of-self
invariant_of-self g c =
    let m = c.self.inside.mux in
    let step = sending_step (g.R.CallRule.next m.rule.rule) (finite.get m.entries c.args.id) c.args.planned in
    record {
      tied = tied_after g.R.Side.gathering m.entries _ c.self.inside.gather.lists _ c.args.id step.entry None c.self.invariant.tied
          (ap (λ m. m.entries) c.stay-answer.ensures.after) (ap (λ g. g.lists) c.discard.ensures.ok)
          (sym (subst (λ (h : Held g.row.R.Denot g.row.R-Entry.Denot).
          gathers g.R.Side.gathering (sending_step (g.R.CallRule.next h.rule) (finite.get h.table c.args.id) c.args.planned).entry ≡ false)
          (sym c.self.view_is) c.requires.ends));
      within = c.stay-answer.ensures.within;
      blocks = as_many_blocks g.R.Side.gathering m c.self.inside.gather _ _ _ c.self.invariant (ap (λ g. g.limit) c.discard.ensures.ok)
          (ap (λ m. m.limit) c.stay-answer.ensures.after) (ap (λ g. g.blocks) c.discard.ensures.ok);
    }
