use Rattle.std.proofs.Common.{◌≡◌, drop}
use Rattle.serde_json.specs.View.{items_view}
use Rattle.giop_json.specs.FromJson.{items_shown, label_shown}
use Rattle.giop_types.specs.Values.Views.{desc_view}
use Rattle.giop_types.proofs.Coding.PartLoops.{with_front}
use Rattle.giop_json.proofs.desc_json.labels_of.Given as goal

abbrev pub invariant-loop-label : goal.invariant-loop-label
invariant-loop-label l =
    with_front l.labels.items (items_shown (label_shown (desc_view l.disc)) (items_view (drop l.label-index l.list)))
    ≡ items_shown (label_shown (desc_view l.disc)) (items_view l.list)
