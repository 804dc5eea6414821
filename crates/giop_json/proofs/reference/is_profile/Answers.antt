use Rattle.std.proofs.Common.{sym, arith}
use Rattle.giop_types.proofs.Values.ViewLemmas.{view-Members}
use Rattle.giop_json.proofs.ReferenceLemmas.{not_two}
use Rattle.giop_json.proofs.reference.is_profile.Goals as goal

pub returns-in_default-as_slice : goal.returns-in_default-as_slice
returns-in_default-as_slice c =
    let few = rw c.as_slice.ensures.value at c.in_default-as_slice.len_below in
    rw (c.in-Members.is, view-Members) (sym (not_two _ _ _ _ c.in-Members.members.items (λ two. omega (arith, two, few))))

pub returns-in_default-as_slice-2 : goal.returns-in_default-as_slice-2
returns-in_default-as_slice-2 c =
    let many = rw c.as_slice.ensures.value at c.in_default-as_slice.len_at_least in
    rw (c.in-Members.is, view-Members) (sym (not_two _ _ _ _ c.in-Members.members.items (λ two. omega (arith, two, many))))
