use Rattle.std.proofs.Common.{◌≡◌, map, drop, option_map}
use Rattle.serde_json.specs.View.{items_view}
use Rattle.giop_json.specs.FromJson.{ordinal_shown, ordinal_tree, items_shown}
use Rattle.giop_types.specs.Values.Views.{value_view}
use Rattle.giop_types.proofs.Coding.PartLoops.{with_front}
use Rattle.giop_json.proofs.ordinals.named_values.Given as goal

abbrev pub invariant-loop-json : goal.invariant-loop-json
invariant-loop-json l =
    with_front (map value_view l.values.items) (items_shown (λ d. option_map ordinal_tree (ordinal_shown l.names d)) (items_view (drop l.json-index l.list)))
    ≡ items_shown (λ d. option_map ordinal_tree (ordinal_shown l.names d)) (items_view l.list)
