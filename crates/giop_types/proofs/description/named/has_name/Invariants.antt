use Rattle.std.proofs.Common.{◌≡◌, map, drop}
use Rattle.std.specs.List.{list_any}
use Rattle.giop_types.specs.Descriptions.Checked.{same_name}
use Rattle.giop_types.proofs.description.named.has_name.Given as goal

abbrev pub invariant-loop-item : goal.invariant-loop-item
invariant-loop-item g l =
    list_any (λ other. same_name other l.name) (map g.T.Named.name_of (drop l.item-index l.items))
    ≡ list_any (λ other. same_name other l.name) (map g.T.Named.name_of l.items)
