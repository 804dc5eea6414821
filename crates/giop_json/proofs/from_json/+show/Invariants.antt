use Rattle.std.proofs.Common.{◌≡◌, map, drop, List, Option}
use Rattle.serde_json.specs.Data.{Data}
use Rattle.serde_json.specs.View.{view, items_view}
use Rattle.giop_types.specs.Values.Tree.{Tree}
use Rattle.giop_json.specs.FromJson.{shown, fields_shown, branches_shown, items_shown}
use Rattle.giop_types.specs.Values.Views.{desc_view, named_view, case_view, value_view, fields_of, branches_of}
use Rattle.giop_types.proofs.Coding.PartLoops.{with_front}
use Rattle.giop_json.proofs.from_json.+show.Given as goal

abbrev pub invariant-show_fields-loop-member : goal.invariant-show_fields-loop-member
invariant-show_fields-loop-member l =
    with_front (map value_view l.values.items) (fields_shown (fields_of (map named_view (drop l.member-index l.members))) (view l.json))
    ≡ fields_shown (fields_of (map named_view l.members)) (view l.json)

abbrev pub invariant-show_each-loop-json : goal.invariant-show_each-loop-json
invariant-show_each-loop-json l =
    with_front (map value_view l.values.items) (items_shown (shown (desc_view l.item)) (items_view (drop l.json-index l.list)))
    ≡ items_shown (shown (desc_view l.item)) (items_view l.list)

abbrev pub invariant-show_case-loop-case : goal.invariant-show_case-loop-case
invariant-show_case-loop-case l =
    (other : Data → Option (List Tree)) → branches_shown (branches_of (map case_view (drop l.case-index l.cases))) other l.label (view l.json)
    ≡ branches_shown (branches_of (map case_view l.cases)) other l.label (view l.json)
