use Rattle.std.proofs.Common.{◌≡◌, map, take}
use Rattle.giop_c.specs.Corbalocs.{address_of}
use Rattle.giop_c.proofs.corbaloc_calls.addresses_of.Given as goal

abbrev pub invariant-loop-profile : goal.invariant-loop-profile
invariant-loop-profile l = l.addresses.items ≡ map address_of (take l.profile-index l.profiles)
