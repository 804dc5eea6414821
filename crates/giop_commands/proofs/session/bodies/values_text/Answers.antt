use Rattle.std.proofs.Common.{◌≡◌, false, map, ap, ◌∙◌}
use Rattle.serde_json.specs.View.{view}
use Rattle.serde_json.specs.Written.{compact_text, has_float}
use Rattle.giop_types.specs.Values.Views.{value_view}
use Rattle.giop_commands.proofs.BodiesLemmas.{each_whole}
use Rattle.giop_commands.proofs.session.bodies.values_text.Goals as goal

pub returns : goal.returns
returns c =
    let shown = c.in_ok-list.ensures in
    let whole : has_float (view c.in_ok-list.list) ≡ false = ap has_float shown ∙ each_whole c.args.numbers c.args.parameters.now (map value_view c.args.values.now) in
    c.in_ok-to_string.ensures.text whole ∙ ap compact_text shown
