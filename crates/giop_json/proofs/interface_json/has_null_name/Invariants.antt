use Rattle.std.proofs.Common.{◌≡◌, map, drop}
use Rattle.std.specs.List.{list_any}
use Rattle.giop_cdr.specs.Reading.Values.{has_null}
use Rattle.giop_types.specs.Values.Views.{named_view}
use Rattle.giop_json.proofs.interface_json.has_null_name.Given as goal

abbrev pub invariant-loop-parameter : goal.invariant-loop-parameter
invariant-loop-parameter l =
    list_any (λ m. has_null m.name) (map named_view (drop l.parameter-index l.parameters))
    ≡ list_any (λ m. has_null m.name) (map named_view l.parameters)
