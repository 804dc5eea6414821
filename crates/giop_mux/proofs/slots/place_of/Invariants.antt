use Rattle.std.proofs.Common.{◌≡◌, ◌++◌, take, drop}
use Rattle.giop_mux.specs.Slots.{placed}
use Rattle.giop_mux.proofs.slots.place_of.Given as goal

-- the ids that were passed over stand before the place
abbrev pub invariant-loop-at : goal.invariant-loop-at
invariant-loop-at l = placed l.id l.ids ≡ take l.at l.ids ++ placed l.id (drop l.at l.ids)
