use Rattle.std.proofs.Common.{take}
use Rattle.std.specs.Io.KnownBytes.{Appends}
use Rattle.giop_commands.specs.Convert.{profile_lines}
use Rattle.giop_commands.proofs.convert.reference.write_profiles.Given as goal

abbrev pub invariant-loop-profile : goal.invariant-loop-profile
invariant-loop-profile g l =
    Appends (g.W.Write.contents l.fn.writer) (g.W.Write.contents l.writer) (profile_lines (take l.profile-index l.profiles))
