use Rattle.std.proofs.Common.{◌≡◌, map, take}
use Rattle.giop_ior.specs.ToIor.{profile_of}
use Rattle.giop_ior.proofs.addresses.to_ior.profiles_of.Given as goal

abbrev pub invariant-loop-address : goal.invariant-loop-address
invariant-loop-address l = l.profiles.items ≡ map (profile_of l.key) (take l.address-index l.addresses)
