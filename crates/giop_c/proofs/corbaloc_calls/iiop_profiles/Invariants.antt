use Rattle.std.proofs.Common.{◌≡◌, take}
use Rattle.std.specs.List.{filter_map}
use Rattle.giop_c.specs.Corbalocs.{iiop_in}
use Rattle.giop_c.proofs.corbaloc_calls.iiop_profiles.Given as goal

abbrev pub invariant-loop-profile : goal.invariant-loop-profile
invariant-loop-profile l = l.read.items ≡ filter_map iiop_in (take l.profile-index l.profiles)
