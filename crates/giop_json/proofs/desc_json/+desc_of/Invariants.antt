use Rattle.std.proofs.Common.{◌≡◌, ◌+◌, ◌*◌, map, drop}
use Rattle.serde_json.specs.View.{items_view}
use Rattle.giop_json.specs.DescFromJson.{desc_in, case_in, member_in}
use Rattle.giop_json.specs.FromJson.{items_shown}
use Rattle.giop_types.specs.Values.Views.{desc_view, named_view, case_view}
use Rattle.giop_types.proofs.Coding.PartLoops.{with_front}
use Rattle.giop_json.proofs.desc_json.+desc_of.Given as goal

abbrev pub decreases-desc_of : goal.decreases-desc_of
decreases-desc_of l = l.levels * 8

abbrev pub decreases-composed_desc : goal.decreases-composed_desc
decreases-composed_desc l = l.levels * 8 + 6

abbrev pub decreases-union_of : goal.decreases-union_of
decreases-union_of l = l.levels * 8 + 5

abbrev pub decreases-struct_of : goal.decreases-struct_of
decreases-struct_of l = l.levels * 8 + 5

abbrev pub decreases-sequence_of : goal.decreases-sequence_of
decreases-sequence_of l = l.levels * 8 + 5

abbrev pub decreases-array_of : goal.decreases-array_of
decreases-array_of l = l.levels * 8 + 5

abbrev pub decreases-cases_beside : goal.decreases-cases_beside
decreases-cases_beside l = l.levels * 8 + 4

abbrev pub decreases-default_beside : goal.decreases-default_beside
decreases-default_beside l = l.levels * 8 + 4

abbrev pub decreases-cases_of : goal.decreases-cases_of
decreases-cases_of l = l.levels * 8 + 3

abbrev pub decreases-members_of : goal.decreases-members_of
decreases-members_of l = l.levels * 8 + 3

abbrev pub decreases-case_of : goal.decreases-case_of
decreases-case_of l = l.levels * 8 + 2

abbrev pub decreases-member_of : goal.decreases-member_of
decreases-member_of l = l.levels * 8 + 2

abbrev pub invariant-cases_of-loop-form : goal.invariant-cases_of-loop-form
invariant-cases_of-loop-form l =
    with_front (map case_view l.cases.items) (items_shown (case_in (desc_in l.levels) (desc_view l.disc)) (items_view (drop l.form-index l.list)))
    ≡ items_shown (case_in (desc_in l.levels) (desc_view l.disc)) (items_view l.list)

abbrev pub invariant-members_of-loop-pair : goal.invariant-members_of-loop-pair
invariant-members_of-loop-pair l =
    with_front (map named_view l.members.items) (items_shown (member_in (desc_in l.levels)) (items_view (drop l.pair-index l.list)))
    ≡ items_shown (member_in (desc_in l.levels)) (items_view l.list)
