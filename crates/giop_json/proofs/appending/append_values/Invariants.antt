use Rattle.std.proofs.Common.{◌≡◌, ◌++◌, map, drop, nat_lt}
use Rattle.std.specs.String.{string_bytes}
use Rattle.serde_json.specs.View.{items_of}
use Rattle.serde_json.specs.Written.{items_text}
use Rattle.giop_json.specs.ValuesText.{each_data, values_text}
use Rattle.giop_types.specs.Values.Views.{value_view}
use Rattle.giop_json.proofs.appending.append_values.Given as goal

abbrev pub invariant-loop-i : goal.invariant-loop-i
invariant-loop-i l =
    string_bytes l.text ++ items_text (nat_lt 0 l.i) (items_of (each_data l.numbers (drop l.i l.parameters) (map value_view (drop l.i l.values))))
    ≡ string_bytes l.fn.text ++ values_text l.numbers l.parameters (map value_view l.values)
