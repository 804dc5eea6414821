use Rattle.std.proofs.Common.{◌≡◌, map, drop}
use Rattle.std.specs.Ordering.{int_eq}
use Rattle.giop_types.specs.Descriptions.Checked.{is_repeated, all_labels}
use Rattle.giop_types.specs.Values.Views.{case_view, branches_of}
use Rattle.giop_types.proofs.description.label_check.is_repeated.Given as goal

abbrev pub invariant-loop-i : goal.invariant-loop-i
invariant-loop-i l = is_repeated int_eq (drop l.i l.labels) (all_labels (branches_of (map case_view l.later)))
    ≡ is_repeated int_eq l.labels (all_labels (branches_of (map case_view l.later)))
