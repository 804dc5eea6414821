use Rattle.std.proofs.Common.{◌≡◌, drop}
use Rattle.giop_commands.specs.Session.Target.{first_iiop}
use Rattle.giop_commands.proofs.session.target.first_iiop.Given as goal

abbrev pub invariant-loop-profile : goal.invariant-loop-profile
invariant-loop-profile l = first_iiop (drop l.profile-index l.profiles) ≡ first_iiop l.profiles
