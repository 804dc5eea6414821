use Rattle.std.proofs.Common.{◌≡◌, map, drop}
use Rattle.giop_types.specs.Descriptions.Checked.{has_doubled, same_name}
use Rattle.giop_types.proofs.json.parameters.has_doubled_parameter.Given as goal

abbrev pub invariant-loop-i : goal.invariant-loop-i
invariant-loop-i l = has_doubled same_name (map (λ p. p.name) (drop l.i l.list)) ≡ has_doubled same_name (map (λ p. p.name) l.list)
