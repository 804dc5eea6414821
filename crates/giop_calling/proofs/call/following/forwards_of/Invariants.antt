use Rattle.std.proofs.Common.{◌≡◌, take}
use Rattle.std.specs.List.{flat_map}
use Rattle.giop_calling.specs.Call.Following.{forward_at}
use Rattle.giop_calling.proofs.call.following.forwards_of.Given as goal

abbrev pub invariant-loop-id : goal.invariant-loop-id
invariant-loop-id l = l.forwards.items ≡ flat_map (forward_at l.ends) (take l.id-index l.id-items)
