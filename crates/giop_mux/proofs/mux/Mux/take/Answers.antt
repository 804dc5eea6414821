use Rattle.std.proofs.Common.{ap, arith}
use Rattle.std.specs.FinMap as map
use Rattle.giop_mux.specs.Slots.{held}
use Rattle.giop_mux.proofs.SlotLemmas.{len-removed}
use Rattle.giop_mux.proofs.mux.Mux.take.Goals as goal

pub returns-clause-within : goal.returns-clause-within
returns-clause-within g c =
    let same = ap map.len c.take_slot.ensures.ok in
    let fewer = len-removed (held c.self.inside.table) c.args.id in
    omega (arith, same, fewer, c.self.invariant.within)

pub invariant_of-self : goal.invariant_of-self
invariant_of-self g c = record {
  whole = c.take_slot.ensures.whole;
  within =
      let same = ap map.len c.take_slot.ensures.ok in
      let fewer = len-removed (held c.self.inside.table) c.args.id in
      omega (arith, same, fewer, c.self.invariant.within);
}
