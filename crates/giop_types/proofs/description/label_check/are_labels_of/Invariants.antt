use Rattle.std.proofs.Common.{◌≡◌, drop}
use Rattle.std.specs.List.{list_all}
use Rattle.giop_types.specs.Descriptions.Checked.{is_label_of}
use Rattle.giop_types.specs.Values.Views.{desc_view}
use Rattle.giop_types.proofs.description.label_check.are_labels_of.Given as goal

abbrev pub invariant-loop-label : goal.invariant-loop-label
invariant-loop-label l = list_all (is_label_of (desc_view l.disc)) (drop l.label-index l.labels) ≡ list_all (is_label_of (desc_view l.disc)) l.labels
