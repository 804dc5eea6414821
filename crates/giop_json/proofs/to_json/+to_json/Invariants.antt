use Rattle.std.proofs.Common.{◌≡◌, ◌++◌, map, drop}
use Rattle.serde_json.specs.Data.{no_members}
use Rattle.serde_json.specs.View.{view, members_view}
use Rattle.giop_json.specs.ToJson.{to_data, fields_data}
use Rattle.giop_types.specs.Values.Views.{desc_view, named_view, value_view, fields_of}
use Rattle.giop_json.proofs.to_json.+to_json.Given as goal

abbrev pub invariant-items_json-loop-value : goal.invariant-items_json-loop-value
invariant-items_json-loop-value l =
    map view l.list.items ++ map (to_data l.numbers (desc_view l.item)) (map value_view (drop l.value-index l.values))
    ≡ map (to_data l.numbers (desc_view l.item)) (map value_view l.values)

abbrev pub invariant-members_json-loop-i : goal.invariant-members_json-loop-i
invariant-members_json-loop-i l =
    fields_data l.numbers (fields_of (map named_view (drop l.i l.members))) (map value_view (drop l.i l.values)) (members_view l.object.entries)
    ≡ fields_data l.numbers (fields_of (map named_view l.members)) (map value_view l.values) no_members
