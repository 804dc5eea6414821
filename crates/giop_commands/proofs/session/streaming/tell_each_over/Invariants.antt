use Rattle.std.proofs.Common.{◌≡◌, take}
use Rattle.std.specs.List.{flat_map}
use Rattle.std.specs.Io.KnownBytes.{Appends}
use Rattle.giop_commands.specs.Session.Streaming.{over_at, without_over}
use Rattle.giop_commands.proofs.session.streaming.tell_each_over.Given as goal

abbrev pub invariant-loop-id : goal.invariant-loop-id
invariant-loop-id g l = record {
  text :
      Appends (g.W.Write.contents l.fn.writer) (g.W.Write.contents l.writer)
      (flat_map (over_at (g.R.CallRule.closed l.fn.end.calls.rule) (g.R.Streamed.told l.showing.lines l.showing.interface.now) l.fn.end.calls.table)
      (take l.id-index l.ids));
  left : without_over (g.R.CallRule.closed l.fn.end.calls.rule) (take l.id-index l.ids) l.fn.end.calls.table ≡ l.end.calls.table;
  others : l.end ≡ record l.fn.end { calls = record l.fn.end.calls { table = l.end.calls.table } };
}
