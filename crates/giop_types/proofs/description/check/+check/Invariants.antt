use Rattle.std.proofs.Common.{◌≡◌, map, drop}
use Rattle.giop_types.specs.Descriptions.Checked.{fields_fault, branches_fault}
use Rattle.giop_types.specs.Values.Views.{named_view, case_view, fields_of, branches_of}
use Rattle.giop_types.proofs.description.check.+check.Given as goal

abbrev pub invariant-check_members-loop-member : goal.invariant-check_members-loop-member
invariant-check_members-loop-member l =
    fields_fault l.depth (fields_of (map named_view (drop l.member-index l.members))) ≡ fields_fault l.depth (fields_of (map named_view l.members))

abbrev pub invariant-check_cases-loop-case : goal.invariant-check_cases-loop-case
invariant-check_cases-loop-case l =
    branches_fault l.depth (branches_of (map case_view (drop l.case-index l.cases))) ≡ branches_fault l.depth (branches_of (map case_view l.cases))
