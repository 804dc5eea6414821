use Rattle.std.proofs.Common.{◌≡◌, true, take}
use Rattle.std.specs.Io.KnownBytes.{Appends}
use Rattle.giop_converting.specs.Convert.{profiles_in}
use Rattle.giop_converting.proofs.ConvertLemmas.{leads}
use Rattle.giop_converting.proofs.convert.reference.write_profiles.Given as goal

abbrev pub invariant-loop-profile : goal.invariant-loop-profile
invariant-loop-profile g l = record {
  told : Appends (g.W.Write.contents l.fn.writer) (g.W.Write.contents l.writer) (profiles_in l.form true (take l.profile-index l.profiles));
  first : l.first ≡ leads true (take l.profile-index l.profiles);
}
