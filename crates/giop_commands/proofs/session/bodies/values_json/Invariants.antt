use Rattle.std.proofs.Common.{◌≡◌, ◌++◌, map, drop}
use Rattle.serde_json.specs.View.{view}
use Rattle.giop_types.specs.Values.Views.{value_view}
use Rattle.giop_commands.specs.Bodies.{each_data}
use Rattle.giop_commands.proofs.session.bodies.values_json.Given as goal

abbrev pub invariant-loop-i : goal.invariant-loop-i
invariant-loop-i l =
    map view l.list.items ++ each_data l.numbers (drop l.i l.parameters) (map value_view (drop l.i l.values))
    ≡ each_data l.numbers l.parameters (map value_view l.values)
