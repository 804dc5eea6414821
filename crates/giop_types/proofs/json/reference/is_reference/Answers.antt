use Rattle.std.proofs.Common.{sym, arith, codes}
use Rattle.giop_types.specs.JsonForms.Reference.{is_any_text, are_profiles}
use Rattle.giop_types.proofs.JsonForms.ReferenceLemmas.{not_two}
use Rattle.giop_types.proofs.json.reference.is_reference.Goals as goal

pub returns-in_default : goal.returns-in_default
returns-in_default c =
    let below = c.in_default.len_below in
    sym (not_two (codes "type_id") (codes "profiles") is_any_text are_profiles c.args.members.now (λ two. omega arith))

pub returns-in_default-2 : goal.returns-in_default-2
returns-in_default-2 c =
    let above = c.in_default.len_at_least in
    sym (not_two (codes "type_id") (codes "profiles") is_any_text are_profiles c.args.members.now (λ two. omega arith))
