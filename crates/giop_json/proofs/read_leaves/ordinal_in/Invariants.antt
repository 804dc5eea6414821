use Rattle.std.proofs.Common.{◌≡◌, ◌+◌, drop}
use Rattle.giop_json.specs.FromJson.{ordinal_in}
use Rattle.giop_json.proofs.read_leaves.ordinal_in.Given as goal

abbrev pub invariant-loop-i : goal.invariant-loop-i
invariant-loop-i l = l.i + ordinal_in l.text (drop l.i l.names) ≡ ordinal_in l.text l.names
