use Rattle.std.proofs.Common.{◌≡◌, length}
use Rattle.giop_types.proofs.json.interface_json.checked_parameters.Given as goal

abbrev pub invariant-loop-form : goal.invariant-loop-form
invariant-loop-form l = length l.list.items ≡ length l.yielded
