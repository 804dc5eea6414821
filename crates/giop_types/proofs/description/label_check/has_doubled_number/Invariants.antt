use Rattle.std.proofs.Common.{map, take}
use Rattle.std.specs.Ordering.{int_cmp, int_eq}
use Rattle.giop_types.proofs.Descriptions.SeenLemmas.{Sees}
use Rattle.giop_types.proofs.description.label_check.has_doubled_number.Given as goal

abbrev pub invariant-loop-number : goal.invariant-loop-number
invariant-loop-number l = Sees (λ k q. int_cmp k.now q.now) (λ k. k.now) int_eq l.seen (map (λ z. z) (take l.number-index l.numbers))
