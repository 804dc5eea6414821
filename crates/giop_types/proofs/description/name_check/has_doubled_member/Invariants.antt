use Rattle.std.proofs.Common.{◌≡◌, drop}
use Rattle.giop_types.proofs.Descriptions.NameLemmas.{doubled_members}
use Rattle.giop_types.proofs.description.name_check.has_doubled_member.Given as goal

abbrev pub invariant-loop-i : goal.invariant-loop-i
invariant-loop-i l = doubled_members (drop l.i l.members) ≡ doubled_members l.members
