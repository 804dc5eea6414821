use Rattle.std.proofs.Common.{◌≡◌, false, ap, ◌∙◌}
use Rattle.serde_json.specs.View.{view}
use Rattle.serde_json.specs.Written.{compact_text, has_float}
use Rattle.giop_types.specs.Values.Views.{desc_view, value_view}
use Rattle.giop_json.proofs.JsonFloatLemmas.{data_whole}
use Rattle.giop_json.proofs.appending.made_text.Goals as goal

pub returns : goal.returns
returns c =
    let shown = c.in_ok-json.ensures in
    let whole : has_float (view c.in_ok-json.json) ≡ false = ap has_float shown
    ∙ data_whole c.args.numbers (desc_view c.args.desc.now) (value_view c.args.value.now) in
    c.in_ok-to_string.ensures.text whole ∙ ap compact_text shown
