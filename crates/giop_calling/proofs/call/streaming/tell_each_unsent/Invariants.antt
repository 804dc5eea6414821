use Rattle.std.proofs.Common.{take}
use Rattle.std.specs.List.{flat_map}
use Rattle.std.specs.Io.KnownBytes.{Appends}
use Rattle.giop_show.specs.Forms.{ended}
use Rattle.giop_calling.specs.Call.Streaming.{unsent_in}
use Rattle.giop_calling.proofs.call.streaming.tell_each_unsent.Given as goal

abbrev pub invariant-loop-call : goal.invariant-loop-call
invariant-loop-call g l =
    Appends (g.O.Write.contents l.fn.out) (g.O.Write.contents l.out)
    (flat_map (λ call. ended (unsent_in l.lines call)) (take l.call-index l.calls))
