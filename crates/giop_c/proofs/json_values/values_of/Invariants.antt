use Rattle.std.proofs.Common.{◌≡◌}
use Rattle.serde_json.specs.View.{items_view}
use Rattle.giop_c.specs.JsonValues.{each_told}
use Rattle.giop_c.proofs.ValueLoops.{behind, told_from}
use Rattle.giop_c.proofs.json_values.values_of.Given as goal

abbrev pub invariant-loop-i : goal.invariant-loop-i
invariant-loop-i l = behind l.fit l.values (told_from l.i l.parameters l.list) ≡ each_told l.parameters (items_view l.list)
