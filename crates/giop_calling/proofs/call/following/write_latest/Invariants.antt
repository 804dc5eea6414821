use Rattle.std.proofs.Common.{take}
use Rattle.std.specs.List.{flat_map}
use Rattle.std.specs.Io.KnownBytes.{Appends}
use Rattle.giop_calling.specs.Call.Following.{latest_at}
use Rattle.giop_calling.proofs.call.following.write_latest.Given as goal

abbrev pub invariant-loop-id : goal.invariant-loop-id
invariant-loop-id g l =
    Appends (g.O.Write.contents l.fn.out) (g.O.Write.contents l.out)
    (flat_map (latest_at l.showing.lines l.showing.interface.now l.ends) (take l.id-index l.ids))
