use Rattle.std.proofs.Common.{◌≡◌, map, drop}
use Rattle.std.specs.List.{list_all}
use Rattle.giop_cdr.specs.Writing.Output.{items_out}
use Rattle.giop_cdr.specs.Writing.Outcome.{Grows}
use Rattle.giop_types.specs.Values.Fits.{fits}
use Rattle.giop_types.specs.Values.Views.{desc_view, value_view}
use Rattle.giop_types.specs.Coding.Written.{value_out}
use Rattle.giop_types.proofs.codec.append.append_primitives.Given as goal

abbrev pub invariant-loop-value : goal.invariant-loop-value
invariant-loop-value l = record {
  fit : list_all (fits (desc_view l.item)) (map value_view (drop l.value-index l.values)) ≡ list_all (fits (desc_view l.item)) (map value_view l.values);
  written : items_out (value_out (desc_view l.item)) (map value_view (drop l.value-index l.values)) l.out
      ≡ items_out (value_out (desc_view l.item)) (map value_view l.values) l.fn.out;
  grows : Grows l.fn.out l.out;
}
