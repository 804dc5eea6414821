use Rattle.std.proofs.Common.{◌≡◌, drop}
use Rattle.giopctl.specs.Target.{first_iiop}
use Rattle.giopctl.proofs.commands.session.target.first_iiop.Given as goal

abbrev pub invariant-loop-profile : goal.invariant-loop-profile
invariant-loop-profile l = first_iiop (drop l.profile-index l.profiles) ≡ first_iiop l.profiles
