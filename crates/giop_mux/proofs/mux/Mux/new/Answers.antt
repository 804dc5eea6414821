use Rattle.std.proofs.Common.{◌∙◌, ap, arith}
use Rattle.std.specs.FinMap as map
use Rattle.std.specs.FinMap.{len-empty}
use Rattle.std.specs.Ordering.{nat_cmp}
use Rattle.giop_mux.proofs.mux.Mux.new.Goals as goal

pub invariant_of-result : goal.invariant_of-result
invariant_of-result g c = record {
  whole = c.no_slots.ensures.whole;
  within = let none = ap map.len c.no_slots.ensures.value ∙ len-empty nat_cmp g.row.R-Entry.Denot in omega (arith, none);
}
