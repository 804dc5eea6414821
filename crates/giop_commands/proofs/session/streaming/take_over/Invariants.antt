use Rattle.std.proofs.Common.{◌≡◌, drop}
use Rattle.giop_commands.specs.Streaming.{without_over}
use Rattle.giop_commands.proofs.session.streaming.take_over.Given as goal

abbrev pub invariant-loop-id : goal.invariant-loop-id
invariant-loop-id g l = record {
  left :
      without_over (g.R.CallRule.closed l.fn.end.calls.rule) (drop l.id-index l.ids) l.end.calls.table
      ≡ without_over (g.R.CallRule.closed l.fn.end.calls.rule) l.ids l.fn.end.calls.table;
  others : l.end ≡ record l.fn.end { calls = record l.fn.end.calls { table = l.end.calls.table } };
}
