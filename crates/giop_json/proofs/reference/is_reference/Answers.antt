use Rattle.std.proofs.Common.{sym, ◌∙◌, arith}
use Rattle.giop_json.proofs.MemberPairs.{are_two_of}
use Rattle.giop_json.proofs.ReferenceLemmas.{not_two}
use Rattle.giop_json.proofs.reference.is_reference.Goals as goal

pub returns-in-len2 : goal.returns-in-len2
returns-in-len2 c =
    c.are_type_id_and_profiles.ensures ∙ are_two_of _ _ _ _ c.args.members.now _ _ c.in-len2.len_at_least c.in-len2.len_below
    c.type_id-item.is c.profiles-item.is

pub returns-in_default : goal.returns-in_default
returns-in_default c = sym (not_two _ _ _ _ c.args.members.now (λ two. omega (arith, two, c.in_default.len_below)))

pub returns-in_default-2 : goal.returns-in_default-2
returns-in_default-2 c = sym (not_two _ _ _ _ c.args.members.now (λ two. omega (arith, two, c.in_default.len_at_least)))
