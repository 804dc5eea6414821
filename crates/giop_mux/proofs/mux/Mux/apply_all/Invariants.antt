use Rattle.std.proofs.Common.{◌≡◌, ◌≤◌, ◌+◌, ◌++◌, length, map, vec_capacity}
use Rattle.giop_ids.specs.Runs.{Runs}
use Rattle.giop_mux.specs.Runs.{call_rules, acts_of, event_reply}
use Rattle.giop_mux.proofs.mux.Mux.apply_all.Given as goal

-- the events so far have had these outcomes, there is room for an outcome of each of the others, and they are still to come
abbrev pub invariant-loop-told : goal.invariant-loop-told
invariant-loop-told g l = record {
  parts : l.yielded ++ l.told-iterator.rest.items ≡ l.fn.events.items;
  room : length l.outcomes.items + length l.told-iterator.rest.items ≤ vec_capacity l.outcomes;
  rule : l.self.rule ≡ l.initial.self.rule;
  limit : l.self.limit ≡ l.initial.self.limit;
  run : Runs (call_rules (g.R.CallRule.next l.initial.self.rule) (g.R.CallRule.closed l.initial.self.rule) l.initial.self.limit)
      l.initial.self.entries (acts_of l.yielded) (map event_reply l.outcomes.items) l.self.entries;
}
