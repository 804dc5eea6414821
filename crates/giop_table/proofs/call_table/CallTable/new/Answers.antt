use Rattle.std.proofs.Common.{is_some, ap, ◌∙◌, sym, arith}
use Rattle.std.specs.Ordering.{nat_cmp}
use Rattle.std.specs.FinMap as finite
use Rattle.std.specs.FinMap.{get-empty, len-empty}
use Rattle.giop_table.specs.CallTable.{gathers}
use Rattle.giop_table.proofs.call_table.CallTable.new.Goals as goal

pub invariant_of-result : goal.invariant_of-result
invariant_of-result g c = record {
  tied = λ id. ap (λ g. is_some (finite.get g.lists id)) c.new-2.ensures.value ∙ ap is_some (get-empty nat_cmp id)
      ∙ sym (ap (λ m. gathers g.R.Side.gathering (finite.get m.entries id)) c.new.ensures ∙ ap (gathers g.R.Side.gathering) (get-empty nat_cmp id));
  within =
      let none = ap (λ m. finite.len m.entries) c.new.ensures ∙ len-empty nat_cmp _ in
      omega arith;
  blocks =
      let none = ap (λ g. g.blocks) c.new-2.ensures.value in
      omega arith;
}
