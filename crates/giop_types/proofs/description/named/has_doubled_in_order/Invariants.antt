use Rattle.std.proofs.Common.{map, take}
use Rattle.std.specs.Cmp.Lexicographic.{slice_cmp}
use Rattle.std.specs.Ordering.{nat_cmp}
use Rattle.giop_types.specs.Descriptions.Checked.{same_name}
use Rattle.giop_types.proofs.Descriptions.SeenLemmas.{Sees}
use Rattle.giop_types.proofs.description.named.has_doubled_in_order.Given as goal

abbrev pub invariant-loop-item : goal.invariant-loop-item
invariant-loop-item g l =
    Sees (λ k q. slice_cmp nat_cmp k.now q.now) (λ k. k.now) same_name l.seen (map g.T.Named.name_of (take l.item-index l.items))
