use Rattle.std.proofs.Common.{arith, subst}
use Rattle.std.proofs.lemmas.Grind.{common_steps}
use Rattle.std.specs.Io.KnownBytes.{Appends}
use Rattle.giop_show.proofs.AppendsLemmas.{Appends-append}
use Rattle.giop_tracing.proofs.trace.json.answer.write_undecoded.Goals as goal

pub returns : goal.returns
returns g c =
    subst (Appends _ _) (grind (arith, common_steps))
    (Appends-append _ _ _ _ _ (Appends-append _ _ _ _ _ c.in_ok-write.ensures.bytes c.in_ok-write_named.ensures) c.in_ok-write-2.ensures.bytes)
