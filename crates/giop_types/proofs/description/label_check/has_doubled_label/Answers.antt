use Rattle.std.proofs.Common.{map}
use Rattle.giop_types.specs.Descriptions.Checked.{all_labels}
use Rattle.giop_types.specs.Values.Views.{case_view, branches_of}
use Rattle.giop_types.proofs.Descriptions.DoubledLemmas.{labels_apart}
use Rattle.giop_types.proofs.description.label_check.has_doubled_label.Goals as goal

pub returns-in-Some-clause-apart : goal.returns-in-Some-clause-apart
returns-in-Some-clause-apart c =
    labels_apart c.in-Some.doubled (all_labels (branches_of (map case_view c.args.cases.now))) c.in-Some.ensures
