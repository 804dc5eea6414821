use Rattle.std.proofs.Common.{◌≡◌, map, drop, length}
use Rattle.giop_types.specs.Values.Fits.{fields_fit}
use Rattle.giop_types.specs.Values.Views.{value_view}
use Rattle.giop_msg.specs.Messages.Body.{fields_in}
use Rattle.giop_c.proofs.values.are_fitting.Given as goal

abbrev pub invariant-loop-i : goal.invariant-loop-i
invariant-loop-i l = record {
  so_far : fields_fit (fields_in (drop l.i l.parameters)) (map value_view (drop l.i l.values)) ≡ fields_fit (fields_in l.parameters) (map value_view l.values);
  as_many : length l.parameters ≡ length l.values;
}
