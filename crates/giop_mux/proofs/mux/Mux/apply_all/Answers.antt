use Rattle.std.proofs.Common.{◌≡◌, ◌∙◌, ◌++◌, ◌∷◌, [], if◌then◌else◌, is_ok, length, ap, arith, rules, append_assoc, length-append, ℕ, subst}
use Rattle.giop_ids.specs.Runs.{Does}
use Rattle.giop_mux.specs.Runs.{Hears, event_reply, call_rules}
use Rattle.giop_mux.proofs.RunLemmas.{one_more, same_rule}
use Rattle.giop_mux.proofs.mux.Mux.apply_all.Given.{Over}
use Rattle.giop_mux.proofs.mux.Mux.apply_all.Goals as goal

-- the outcome stands behind the others
pushed : (g : Over) (c : goal.After-unwrap g) → c.push.new.self.items ≡ c.loop-told.outcomes.items ++ c.apply.result ∷ []
pushed g c =
    c.push.ensures.items
    ∙ ap (λ b. if b then c.loop-told.outcomes.items ++ c.apply.result ∷ [] else c.loop-told.outcomes.items) (ap is_ok c.unwrap.ensures)

pub loop-told-preserved : goal.loop-told-preserved
loop-told-preserved g c =
    let kept = same_rule c.loop-told.self c.apply.new.self _ c.apply.result c.apply.ensures.ok c.apply.ensures.kept in
    let at_rule = subst (λ (r : g.row.R.Denot). Does (call_rules (g.R.CallRule.next r) (g.R.CallRule.closed r) c.loop-told.self.limit) c.loop-told.self.entries
    (record { id = c.in-Some.told.id; what = Hears c.in-Some.told.what }) (event_reply c.apply.result) c.apply.new.self.entries)
    c.loop-told.invariant.rule c.apply.ensures.exact in
    let at_limit =
    subst (λ (n : ℕ). Does (call_rules (g.R.CallRule.next c.args.self.now.rule) (g.R.CallRule.closed c.args.self.now.rule) n) c.loop-told.self.entries
    (record { id = c.in-Some.told.id; what = Hears c.in-Some.told.what }) (event_reply c.apply.result) c.apply.new.self.entries)
    c.loop-told.invariant.limit at_rule in
    record {
      parts = search (rules, append_assoc);
      room =
          let longer = ap length (pushed g c) ∙ length-append c.loop-told.outcomes.items (c.apply.result ∷ []) in
          let fewer = ap length c.in-Some.ensures.steps.0 in
          omega (arith, c.push.ensures.capacity, c.loop-told.invariant.room);
      rule = kept.0 ∙ c.loop-told.invariant.rule;
      limit = kept.1 ∙ c.loop-told.invariant.limit;
      run = one_more (g.R.CallRule.next c.args.self.now.rule) (g.R.CallRule.closed c.args.self.now.rule) c.args.self.now.limit
          _ _ _ _ c.in-Some.told _ _ c.apply.result c.loop-told.invariant.run at_limit (pushed g c);
    }
