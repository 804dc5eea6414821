use Rattle.std.proofs.Common.{◌≡◌, ◌∙◌, sym, ap, arith, Option}
use Rattle.std.proofs.lemmas.Grind.{common_steps}
use Rattle.giop_ids.specs.ById.{put}
use Rattle.giop_mux.specs.Calls.{by_rule}
use Rattle.giop_mux.specs.Slots.{held}
use Rattle.giop_mux.proofs.SlotLemmas.{put_front, get_front}
use Rattle.giop_mux.proofs.slots.step_front.Goals as goal

pub returns-clause-entry : goal.returns-clause-entry
returns-clause-entry g c =
    put_front _ _ _ _ _ c.requires.front
    ∙ ap (put (held c.args.slots.now) c.args.id) (c.step_in.ensures.entry
    ∙ ap (λ (o : Option g.row.R-Entry.Denot). (g.R.CallRule.next c.args.rule.now o c.args.event).entry)
    (sym (get_front _ _ _ _ c.requires.front)))

pub returns-clause-outcome : goal.returns-clause-outcome
returns-clause-outcome g c =
    let rules : c.map_err.result ≡ by_rule c.step_in.result = grind (arith, common_steps) in
    rules ∙ ap by_rule (c.step_in.ensures.outcome
    ∙ ap (λ (o : Option g.row.R-Entry.Denot). (g.R.CallRule.next c.args.rule.now o c.args.event).outcome)
    (sym (get_front _ _ _ _ c.requires.front)))
