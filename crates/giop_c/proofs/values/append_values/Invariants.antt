use Rattle.std.proofs.Common.{◌≡◌, true, map, drop, length}
use Rattle.giop_cdr.specs.Writing.Outcome.{Grows}
use Rattle.giop_types.specs.Coding.Written.{fields_out}
use Rattle.giop_types.specs.Values.Fits.{fields_fit}
use Rattle.giop_types.specs.Values.Views.{value_view}
use Rattle.giop_msg.specs.Messages.Body.{fields_in}
use Rattle.giop_c.proofs.values.append_values.Given as goal

abbrev pub invariant-loop-i : goal.invariant-loop-i
invariant-loop-i l = record {
  written : fields_out (fields_in (drop l.i l.parameters)) (map value_view (drop l.i l.values)) l.out
      ≡ fields_out (fields_in l.parameters) (map value_view l.values) l.fn.out;
  fit : fields_fit (fields_in (drop l.i l.parameters)) (map value_view (drop l.i l.values)) ≡ true;
  as_many : length l.parameters ≡ length l.values;
  grows : Grows l.fn.out l.out;
}
