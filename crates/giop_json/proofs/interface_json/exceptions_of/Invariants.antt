use Rattle.std.proofs.Common.{◌≡◌, map}
use Rattle.serde_json.specs.View.{members_view}
use Rattle.giop_json.specs.InterfaceForms.{exception_entry}
use Rattle.giop_json.specs.InterfaceFromJson.{entries_in, parameters_in}
use Rattle.giop_types.proofs.Coding.PartLoops.{with_front}
use Rattle.giop_json.proofs.interface_json.exceptions_of.Given as goal

-- what was read so far, and what is still to be read
abbrev pub invariant-loop-key : goal.invariant-loop-key
invariant-loop-key l =
    with_front (map exception_entry l.forms.items) (entries_in parameters_in (members_view l.key-iterator)) ≡ entries_in parameters_in
    (members_view l.initial.key-iterator)
