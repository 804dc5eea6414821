use Rattle.std.proofs.Common.{◌≡◌, map, drop}
use Rattle.std.specs.List.{list_any}
use Rattle.giop_types.specs.Descriptions.Checked.{same_name}
use Rattle.giop_types.proofs.json.parameters.has_parameter.Given as goal

abbrev pub invariant-loop-parameter : goal.invariant-loop-parameter
invariant-loop-parameter l =
    list_any (λ other. same_name other l.name) (map (λ p. p.name) (drop l.parameter-index l.list))
    ≡ list_any (λ other. same_name other l.name) (map (λ p. p.name) l.list)
