use Rattle.std.proofs.Common.{◌≡◌, drop}
use Rattle.serde_json.specs.View.{items_view, members_view}
use Rattle.giop_where.specs.Shallow.{items_shallow, members_shallow}
use Rattle.giop_where.proofs.shallow.+shallow.Given as goal

-- what is still to be seen decides
abbrev pub invariant-are_shallow-loop-json : goal.invariant-are_shallow-loop-json
invariant-are_shallow-loop-json l =
    items_shallow l.levels (items_view (drop l.json-index l.list)) ≡ items_shallow l.levels (items_view l.list)

abbrev pub invariant-members_shallow-loop-json : goal.invariant-members_shallow-loop-json
invariant-members_shallow-loop-json l =
    members_shallow l.levels (members_view l.json-iterator) ≡ members_shallow l.levels (members_view l.initial.json-iterator)
