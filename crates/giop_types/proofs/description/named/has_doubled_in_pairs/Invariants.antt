use Rattle.std.proofs.Common.{◌≡◌, map, drop}
use Rattle.giop_types.specs.Descriptions.Checked.{has_doubled, same_name}
use Rattle.giop_types.proofs.description.named.has_doubled_in_pairs.Given as goal

abbrev pub invariant-loop-i : goal.invariant-loop-i
invariant-loop-i g l =
    has_doubled same_name (map g.T.Named.name_of (drop l.i l.items)) ≡ has_doubled same_name (map g.T.Named.name_of l.items)
