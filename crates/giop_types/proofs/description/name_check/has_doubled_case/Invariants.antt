use Rattle.std.proofs.Common.{◌≡◌, drop}
use Rattle.giop_types.proofs.Descriptions.NameLemmas.{doubled_cases}
use Rattle.giop_types.proofs.description.name_check.has_doubled_case.Given as goal

abbrev pub invariant-loop-i : goal.invariant-loop-i
invariant-loop-i l = doubled_cases (drop l.i l.cases) ≡ doubled_cases l.cases
