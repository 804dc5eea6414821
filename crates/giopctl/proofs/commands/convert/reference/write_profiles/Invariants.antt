use Rattle.std.proofs.Common.{take}
use Rattle.std.specs.Io.KnownBytes.{Appends}
use Rattle.giopctl.specs.Convert.{profile_lines}
use Rattle.giopctl.proofs.commands.convert.reference.write_profiles.Given as goal

abbrev pub invariant-loop-profile : goal.invariant-loop-profile
invariant-loop-profile g l =
    Appends (g.W.Write.contents l.fn.writer) (g.W.Write.contents l.writer) (profile_lines (take l.profile-index l.profiles))
