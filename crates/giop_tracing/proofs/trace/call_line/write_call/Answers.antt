use Rattle.std.proofs.Common.{◌∙◌, subst}
use Rattle.std.specs.Io.KnownBytes.{Appends}
use Rattle.giop_tracing.proofs.trace.call_line.write_call.Goals as goal

pub returns-in-Some : goal.returns-in-Some
returns-in-Some g c =
    let made = rw c.in_ok-line.was at c.usual_line.ensures c.args.unanswered in
    let line = rw c.in-Some.is at made in
    rw c.in-Text.is (subst (Appends (g.W.Write.contents c.args.writer.now) (g.W.Write.contents c.write_all.new.self))
    (c.as_bytes.ensures.value ∙ line) c.in_ok-write_all.ensures.bytes)
