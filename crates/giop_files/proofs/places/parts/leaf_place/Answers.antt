use Rattle.std.proofs.Common.{subst}
use Rattle.serde_json.specs.View.{view}
use Rattle.giop_where.specs.First.{IsPlace}
use Rattle.giop_where.specs.declared.role.Role.TheVariants.{Value}
use Rattle.giop_files.proofs.PlacesLemmas.{placed_under}
use Rattle.giop_files.proofs.places.parts.leaf_place.Goals as goal

pub returns : goal.returns
returns c =
    let is =
    subst (λ beside. IsPlace c.args.number (record { role = Value; beside = beside; content = view c.args.json.now }) c.in_ok-place.place)
    c.in_ok-beside.ensures
    c.in_ok-place.ensures in
    placed_under c.args.name.now c.args.number _ c.in_ok-place.place c.in_ok-under.field-0 c.in_ok-key.field-0 is c.in_ok-key.ensures c.in_ok-under.ensures.path
    c.in_ok-under.ensures.role
