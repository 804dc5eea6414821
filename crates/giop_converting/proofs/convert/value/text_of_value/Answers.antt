use Rattle.std.proofs.Common.{◌≡◌, false, ap, ◌∙◌}
use Rattle.serde_json.specs.View.{view}
use Rattle.serde_json.specs.Written.{has_float, compact_text}
use Rattle.giop_types.specs.Descriptions.CheckedShape.{checked_shape}
use Rattle.giop_types.specs.Values.Views.{value_view}
use Rattle.giop_json.proofs.JsonFloatLemmas.{data_whole}
use Rattle.giop_converting.proofs.convert.value.text_of_value.Goals as goal

pub returns-in_ok-to_string-in-Ok : goal.returns-in_ok-to_string-in-Ok
returns-in_ok-to_string-in-Ok c =
    let shown = c.in-Ok.ensures.value in
    let whole : has_float (view c.in-Ok.json) ≡ false = ap has_float shown
    ∙ data_whole c.args.numbers (checked_shape c.args.desc.now) (value_view c.args.value.now) in
    c.in_ok-to_string-in-Ok.ensures.text whole ∙ ap compact_text shown
