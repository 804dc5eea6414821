use Rattle.std.proofs.Common.{◌≡◌, drop}
use Rattle.giop_types.proofs.Descriptions.LabelLemmas.{doubled_labels}
use Rattle.giop_types.proofs.description.label_check.is_doubled_in_pairs.Given as goal

abbrev pub invariant-loop-i : goal.invariant-loop-i
invariant-loop-i l = doubled_labels (drop l.i l.cases) ≡ doubled_labels l.cases
