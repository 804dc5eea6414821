use Rattle.std.proofs.Common.{◌≡◌, drop}
use Rattle.serde_json.specs.View.{view, items_view}
use Rattle.giop_names.specs.Beside.{are_exceptions}
use Rattle.giop_names.proofs.beside.are_exceptions.Given as goal

-- what is still to be seen decides
abbrev pub invariant-loop-id : goal.invariant-loop-id
invariant-loop-id l =
    are_exceptions (view l.file) (items_view (drop l.id-index l.ids)) ≡ are_exceptions (view l.file) (items_view l.ids)
