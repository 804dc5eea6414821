use Rattle.std.proofs.Common.{◌≡◌, ◌++◌, map, drop, nat_lt}
use Rattle.std.specs.String.{string_bytes}
use Rattle.serde_json.specs.Data.{array}
use Rattle.serde_json.specs.View.{items_of}
use Rattle.serde_json.specs.Written.{compact_text, items_text}
use Rattle.giop_json.specs.ToJson.{to_data}
use Rattle.giop_types.specs.Values.Views.{desc_view, value_view}
use Rattle.giop_json.proofs.appending.+append.Given as goal

abbrev pub invariant-append_list-loop-i : goal.invariant-append_list-loop-i
invariant-append_list-loop-i l =
    string_bytes l.text ++ items_text (nat_lt 0 l.i) (items_of (map (to_data l.numbers (desc_view l.item)) (map value_view (drop l.i l.values))))
    ≡ string_bytes l.fn.text ++ compact_text (array (items_of (map (to_data l.numbers (desc_view l.item)) (map value_view l.values))))
