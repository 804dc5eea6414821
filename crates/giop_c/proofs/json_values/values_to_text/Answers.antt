use Rattle.std.proofs.Common.{◌≡◌, false, map, ap, ◌∙◌}
use Rattle.serde_json.specs.View.{view}
use Rattle.serde_json.specs.Written.{compact_text, has_float}
use Rattle.giop_types.specs.Values.Views.{value_view}
use Rattle.giop_c.proofs.ValueLoops.{each_whole}
use Rattle.giop_c.proofs.json_values.values_to_text.Goals as goal

pub returns-clause-value : goal.returns-clause-value
returns-clause-value c =
    let shown = c.in_ok-list.ensures.value in
    let whole : has_float (view c.in_ok-list.list) ≡ false = ap has_float shown ∙ each_whole c.args.parameters.now (map value_view c.args.values.now) in
    c.in_ok-to_vec.ensures.text whole ∙ ap compact_text shown
