use Rattle.std.proofs.Common.{◌≡◌, ◌++◌, map, drop, length}
use Rattle.serde_json.specs.View.{view}
use Rattle.giop_types.specs.Values.Fits.{fields_fit}
use Rattle.giop_types.specs.Values.Views.{value_view}
use Rattle.giop_msg.specs.Messages.Body.{fields_in}
use Rattle.giop_c.specs.JsonValues.{each_data}
use Rattle.giop_c.proofs.json_values.list_of.Given as goal

abbrev pub invariant-loop-i : goal.invariant-loop-i
invariant-loop-i l = record {
  so_far : map view l.list.items ++ each_data (drop l.i l.parameters) (map value_view (drop l.i l.values)) ≡ each_data l.parameters (map value_view l.values);
  fit : fields_fit (fields_in (drop l.i l.parameters)) (map value_view (drop l.i l.values)) ≡ fields_fit (fields_in l.parameters) (map value_view l.values);
  as_many : length l.parameters ≡ length l.values;
}
