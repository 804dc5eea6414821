use Rattle.std.proofs.Common.{None, Ok, refl, ap, subst, ◌∙◌}
use Rattle.std.specs.FinMap as finite
use Rattle.giop_ids.specs.Runs.{Does}
use Rattle.giop_table.specs.CallTable.{Held, rules_of, IsTaken, Gives}
use Rattle.giop_table.proofs.TableLemmas.{held, tied_after, as_many_blocks, put_itself, does_take, over_is_away}
use Rattle.giop_table.proofs.call_table.CallTable.take.Goals as goal

pub invariant_of-self-2 : goal.invariant_of-self-2
invariant_of-self-2 g c =
    let m = c.self.inside.mux in
    record {
      tied = tied_after g.R.Side.gathering m.entries _ c.self.inside.gather.lists _ c.args.id None (finite.get c.self.inside.gather.lists c.args.id)
          c.self.invariant.tied (ap (λ m. m.entries) c.in-Ok.ensures.ok) (put_itself c.self.inside.gather.lists c.args.id)
          (c.self.invariant.tied c.args.id ∙ over_is_away (g.R.CallRule.closed m.rule.rule) g.R.Side.gathering (g.met.R.Side.gathering_is_open m.rule.rule)
          (finite.get m.entries c.args.id) (λ open_yet. let wrong = c.in-Ok.ensures.err.1 open_yet in absurd cc));
      within = c.in-Ok.ensures.within;
      blocks = as_many_blocks g.R.Side.gathering m c.self.inside.gather _ _ _ c.self.invariant refl (ap (λ m. m.limit) c.in-Ok.ensures.ok) refl;
    }

pub returns-clause-does : goal.returns-clause-does
returns-clause-does g c =
    let m = c.self.inside.mux in
    subst (λ (h : Held g.row.R.Denot g.row.R-Entry.Denot). Does (rules_of (g.R.CallRule.next h.rule) (g.R.CallRule.closed h.rule) g.R.Side.gathering) h
    (record { id = c.args.id; what = IsTaken }) (Ok (Gives c.in-Ok.slot))
    (held c.take.new.self.rule.rule c.take.new.self c.self.inside.gather)) c.self.view_is
    (does_take (g.R.CallRule.next m.rule.rule) (g.R.CallRule.closed m.rule.rule) g.R.Side.gathering
    (held m.rule.rule m c.self.inside.gather) _ c.args.id c.in-Ok.slot
    (λ open_yet. let wrong = c.in-Ok.ensures.err.1 open_yet in absurd cc) c.in-Ok.ensures.value
    (ap (λ m. held m.rule.rule m c.self.inside.gather) c.in-Ok.ensures.ok))
