use Rattle.std.proofs.Common.{take}
use Rattle.std.specs.List.{flat_map}
use Rattle.std.specs.Io.KnownBytes.{Appends}
use Rattle.giop_tracing.specs.Trace.Text.{open_line}
use Rattle.giop_tracing.proofs.trace.write_open.Given as goal

abbrev pub invariant-loop-id : goal.invariant-loop-id
invariant-loop-id g l =
    Appends (g.W.Write.contents l.fn.writer) (g.W.Write.contents l.writer)
    (flat_map (open_line l.tracing.form l.interface l.tracing.observer.alone l.tracing.observer.calls.entries) (take l.id-index l.id-items))
