use Rattle.std.proofs.Common.{◌≡◌, drop}
use Rattle.serde_json.specs.View.{items_view}
use Rattle.giop_where.specs.Parts.{part_view}
use Rattle.giop_where.specs.First.{first_item}
use Rattle.giop_where.proofs.parts.first_item.Given as goal

-- what is still to be seen decides
abbrev pub invariant-loop-index : goal.invariant-loop-index
invariant-loop-index l =
    first_item l.number (part_view l.part) l.index (items_view (drop l.index l.list))
    ≡ first_item l.number (part_view l.part) 0 (items_view l.list)
