use Rattle.std.proofs.Common.{◌≡◌, ◌++◌, map, length}
use Rattle.std.specs.Vec.Iter.{into_iter_items, into_iter_len}
use Rattle.giop_types.specs.Values.Views.{named_view}
use Rattle.giop_json.specs.InterfaceFromJson.{parameter_view, parameters_fault}
use Rattle.giop_json.proofs.interface_json.checked_parameters.Given as goal

-- what was judged, and what is still to be judged
abbrev pub invariant-loop-named : goal.invariant-loop-named
invariant-loop-named l = record {
  parts : map parameter_view l.list.items ++ map named_view (into_iter_items l.named-iterator) ≡ map named_view l.fn.form.list.items;
  judged : parameters_fault (map named_view (into_iter_items l.named-iterator)) ≡ parameters_fault (map named_view l.fn.form.list.items);
  left : into_iter_len l.named-iterator ≡ length (into_iter_items l.named-iterator);
}
