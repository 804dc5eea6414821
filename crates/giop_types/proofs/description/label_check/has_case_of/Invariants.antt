use Rattle.std.proofs.Common.{◌≡◌, drop}
use Rattle.giop_types.proofs.Descriptions.LabelLemmas.{is_labelled}
use Rattle.giop_types.proofs.description.label_check.has_case_of.Given as goal

abbrev pub invariant-loop-case : goal.invariant-loop-case
invariant-loop-case l = is_labelled l.label (drop l.case-index l.cases) ≡ is_labelled l.label l.cases
