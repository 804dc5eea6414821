use Rattle.std.proofs.Common.{◌≡◌}
use Rattle.serde_json.specs.View.{view, members_view}
use Rattle.giop_names.specs.Beside.{are_lawful}
use Rattle.giop_names.proofs.beside.are_lawful.Given as goal

-- what is still to be seen decides
abbrev pub invariant-loop-operation : goal.invariant-loop-operation
invariant-loop-operation l =
    are_lawful (view l.file) (members_view l.operation-iterator) ≡ are_lawful (view l.file) (members_view l.initial.operation-iterator)
