use Rattle.std.proofs.Common.{◌≡◌, [], map, length}
use Rattle.std.specs.Vec.Iter.{into_iter_items, into_iter_len}
use Rattle.giop_json.specs.InterfaceForms.{operation_entry}
use Rattle.giop_json.specs.InterfaceFromJson.{by_name, first_fault, signature_fault, operations_view}
use Rattle.giop_json.proofs.interface_json.checked_operations.Given as goal

-- what is still to be judged and named
abbrev pub invariant-loop-name : goal.invariant-loop-name
invariant-loop-name l = record {
  named : by_name (operations_view l.operations) (map operation_entry (into_iter_items l.name-iterator)) ≡ by_name [] (map operation_entry l.fn.forms.items);
  judged : first_fault (λ e. signature_fault e.1) (map operation_entry (into_iter_items l.name-iterator))
      ≡ first_fault (λ e. signature_fault e.1) (map operation_entry l.fn.forms.items);
  left : into_iter_len l.name-iterator ≡ length (into_iter_items l.name-iterator);
}
