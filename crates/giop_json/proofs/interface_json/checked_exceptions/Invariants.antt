use Rattle.std.proofs.Common.{◌≡◌, [], map, length}
use Rattle.std.specs.Vec.Iter.{into_iter_items, into_iter_len}
use Rattle.giop_json.specs.InterfaceForms.{exception_entry}
use Rattle.giop_json.specs.InterfaceFromJson.{by_name, first_fault, parameters_fault, exceptions_view}
use Rattle.giop_json.proofs.interface_json.checked_exceptions.Given as goal

-- what is still to be judged and named
abbrev pub invariant-loop-id : goal.invariant-loop-id
invariant-loop-id l = record {
  named : by_name (exceptions_view l.exceptions) (map exception_entry (into_iter_items l.id-iterator)) ≡ by_name [] (map exception_entry l.fn.forms.items);
  judged : first_fault (λ e. parameters_fault e.1) (map exception_entry (into_iter_items l.id-iterator))
      ≡ first_fault (λ e. parameters_fault e.1) (map exception_entry l.fn.forms.items);
  left : into_iter_len l.id-iterator ≡ length (into_iter_items l.id-iterator);
}
