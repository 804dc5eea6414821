use Rattle.std.proofs.Common.{◌≡◌, map, drop}
use Rattle.giop_types.specs.Descriptions.Checked.{has_bare_branch}
use Rattle.giop_types.specs.Values.Views.{case_view, branches_of}
use Rattle.giop_types.proofs.description.check.has_bare_case.Given as goal

abbrev pub invariant-loop-case : goal.invariant-loop-case
invariant-loop-case l = has_bare_branch (branches_of (map case_view (drop l.case-index l.cases))) ≡ has_bare_branch (branches_of (map case_view l.cases))
