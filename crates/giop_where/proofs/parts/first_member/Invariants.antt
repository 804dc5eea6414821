use Rattle.std.proofs.Common.{◌≡◌}
use Rattle.serde_json.specs.View.{members_view}
use Rattle.giop_where.specs.Parts.{part_view}
use Rattle.giop_where.specs.First.{first_member}
use Rattle.giop_where.proofs.parts.first_member.Given as goal

-- what is still to be seen decides
abbrev pub invariant-loop-key : goal.invariant-loop-key
invariant-loop-key l =
    first_member l.number (part_view l.part) (members_view l.key-iterator)
    ≡ first_member l.number (part_view l.part) (members_view l.initial.key-iterator)
