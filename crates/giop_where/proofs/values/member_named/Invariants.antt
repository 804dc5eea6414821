use Rattle.std.proofs.Common.{◌≡◌, drop}
use Rattle.serde_json.specs.View.{items_view}
use Rattle.giop_where.specs.Parts.{member_named}
use Rattle.giop_where.proofs.values.member_named.Given as goal

-- what is still to be seen decides
abbrev pub invariant-loop-member : goal.invariant-loop-member
invariant-loop-member l =
    member_named l.key (items_view (drop l.member-index l.members)) ≡ member_named l.key (items_view l.members)
