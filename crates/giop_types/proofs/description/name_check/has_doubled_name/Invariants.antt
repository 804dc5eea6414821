use Rattle.std.proofs.Common.{◌≡◌, drop}
use Rattle.giop_types.specs.Descriptions.Checked.{has_doubled, same_name}
use Rattle.giop_types.proofs.description.name_check.has_doubled_name.Given as goal

abbrev pub invariant-loop-i : goal.invariant-loop-i
invariant-loop-i l = has_doubled same_name (drop l.i l.names) ≡ has_doubled same_name l.names
