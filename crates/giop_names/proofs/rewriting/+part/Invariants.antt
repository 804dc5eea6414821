use Rattle.std.proofs.Common.{◌≡◌, ◌+◌, ◌*◌, drop, string_cmp}
use Rattle.std.specs.List.Sorted.{IsStrictlySortedBy}
use Rattle.std.specs.Map.{keys_of}
use Rattle.serde_json.specs.View.{view, items_view, members_view}
use Rattle.giop_names.specs.Plain.{plain_at, each_item, each_member}
use Rattle.giop_names.proofs.Loops.{after, then_items}
use Rattle.giop_names.proofs.Orders.{then_members, AreBefore}
use Rattle.giop_names.proofs.rewriting.+part.Given as goal

abbrev pub decreases-plain_part : goal.decreases-plain_part
decreases-plain_part l = l.levels * 8

abbrev pub decreases-by_name : goal.decreases-by_name
decreases-by_name l = l.levels * 8 + 4

abbrev pub decreases-named : goal.decreases-named
decreases-named l = l.levels * 8 + 1

abbrev pub decreases-spelled : goal.decreases-spelled
decreases-spelled l = l.levels * 8 + 3

abbrev pub decreases-plain_items : goal.decreases-plain_items
decreases-plain_items l = l.levels * 8 + 2

abbrev pub decreases-plain_members : goal.decreases-plain_members
decreases-plain_members l = l.levels * 8 + 2

abbrev pub decreases-plain_member : goal.decreases-plain_member
decreases-plain_member l = l.levels * 8 + 1

-- what was made so far, and what is still to be made
abbrev pub invariant-plain_items-loop-json : goal.invariant-plain_items-loop-json
invariant-plain_items-loop-json l =
    after (then_items (items_view l.items.items))
    (each_item (plain_at l.levels (view l.types) l.scope) (items_view (drop l.json-index l.list)) l.room)
    ≡ each_item (plain_at l.levels (view l.types) l.scope) (items_view l.list) l.initial.room

abbrev pub invariant-plain_members-loop-key : goal.invariant-plain_members-loop-key
invariant-plain_members-loop-key l = record {
  told : after (then_members (members_view l.members.entries))
      (each_member (plain_at l.levels (view l.types)) l.scope (members_view l.key-iterator) l.room)
      ≡ each_member (plain_at l.levels (view l.types)) l.scope (members_view l.initial.key-iterator) l.initial.room;
  before : AreBefore (members_view l.members.entries) l.key-iterator;
  sorted : IsStrictlySortedBy string_cmp (keys_of l.key-iterator);
}
