use Rattle.std.proofs.Common.{◌≡◌, drop}
use Rattle.giop_types.specs.Values.Views.{desc_view}
use Rattle.giop_types.proofs.Descriptions.LabelLemmas.{cases_of}
use Rattle.giop_types.proofs.description.label_check.are_cases_of.Given as goal

abbrev pub invariant-loop-case : goal.invariant-loop-case
invariant-loop-case l = cases_of (desc_view l.disc) (drop l.case-index l.cases) ≡ cases_of (desc_view l.disc) l.cases
