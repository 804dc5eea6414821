use Rattle.std.proofs.Common.{◌≤◌, length, drop}
use Rattle.giop_json.specs.Ordinals.{HasOrdinals}
use Rattle.giop_json.proofs.ordinals.in_order.Given as goal

-- the names from a place on are in order
abbrev pub invariant-loop-ordinal : goal.invariant-loop-ordinal
invariant-loop-ordinal l = (l.ordinal ≤ length l.names) × HasOrdinals l.ordinal l.ordered (drop l.ordinal l.names)

abbrev pub decreases-loop-ordinal : goal.decreases-loop-ordinal
decreases-loop-ordinal l = l.ordinal
