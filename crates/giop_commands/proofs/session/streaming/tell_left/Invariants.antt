use Rattle.std.proofs.Common.{take}
use Rattle.std.specs.List.{flat_map}
use Rattle.std.specs.Io.KnownBytes.{Appends}
use Rattle.giop_commands.specs.Session.Tables.Table.{text_at}
use Rattle.giop_commands.proofs.session.streaming.tell_left.Given as goal

abbrev pub invariant-loop-id : goal.invariant-loop-id
invariant-loop-id g l =
    Appends (g.W.Write.contents l.fn.writer) (g.W.Write.contents l.writer)
    (flat_map (text_at (g.R.Streamed.told l.showing.lines l.showing.interface.now) l.end.calls.table) (take l.id-index l.id-items))
