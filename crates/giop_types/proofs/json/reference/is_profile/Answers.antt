use Rattle.std.proofs.Common.{length, sym, ap, arith, codes}
use Rattle.giop_types.specs.JsonForms.Reference.{is_ulong, are_any_octets}
use Rattle.giop_types.proofs.Values.ViewLemmas.{view-Members}
use Rattle.giop_types.proofs.JsonForms.ReferenceLemmas.{not_two}
use Rattle.giop_types.proofs.json.reference.is_profile.Goals as goal

pub returns-in_default-as_slice : goal.returns-in_default-as_slice
returns-in_default-as_slice c =
    let ms = c.in-Members.members in
    let len = ap length c.as_slice.ensures.value in
    let below = c.in_default-as_slice.len_below in
    rw (c.in-Members.is, view-Members ms) (sym (not_two (codes "tag") (codes "octets") is_ulong are_any_octets ms.items (λ two. omega arith)))

pub returns-in_default-as_slice-2 : goal.returns-in_default-as_slice-2
returns-in_default-as_slice-2 c =
    let ms = c.in-Members.members in
    let len = ap length c.as_slice.ensures.value in
    let above = c.in_default-as_slice.len_at_least in
    rw (c.in-Members.is, view-Members ms) (sym (not_two (codes "tag") (codes "octets") is_ulong are_any_octets ms.items (λ two. omega arith)))
