use Rattle.std.proofs.Common.{◌≡◌, drop}
use Rattle.giop_types.proofs.Descriptions.NameLemmas.{is_member}
use Rattle.giop_types.proofs.description.name_check.has_member.Given as goal

abbrev pub invariant-loop-member : goal.invariant-loop-member
invariant-loop-member l = is_member l.name (drop l.member-index l.members) ≡ is_member l.name l.members
