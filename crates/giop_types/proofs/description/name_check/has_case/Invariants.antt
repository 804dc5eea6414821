use Rattle.std.proofs.Common.{◌≡◌, drop}
use Rattle.giop_types.proofs.Descriptions.NameLemmas.{is_case}
use Rattle.giop_types.proofs.description.name_check.has_case.Given as goal

abbrev pub invariant-loop-case : goal.invariant-loop-case
invariant-loop-case l = is_case l.name (drop l.case-index l.cases) ≡ is_case l.name l.cases
