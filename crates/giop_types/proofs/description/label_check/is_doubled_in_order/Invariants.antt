use Rattle.std.proofs.Common.{◌≡◌, ◌++◌, map, drop}
use Rattle.giop_types.specs.Descriptions.Checked.{all_labels}
use Rattle.giop_types.specs.Values.Views.{case_view, branches_of}
use Rattle.giop_types.proofs.description.label_check.is_doubled_in_order.Given as goal

abbrev pub invariant-loop-case : goal.invariant-loop-case
invariant-loop-case l =
    l.labels.items ++ all_labels (branches_of (map case_view (drop l.case-index l.cases))) ≡ all_labels (branches_of (map case_view l.cases))
