use Rattle.std.proofs.Common.{◌≡◌, length, min, inl, inr, arith}
use Rattle.giop_c.proofs.ValueLoops.{as_many_differ, one_was_unfit}
use Rattle.giop_c.proofs.json_values.values_of.Goals as goal

pub returns-else-fit : goal.returns-else-fit
returns-else-fit c =
    let l = c.loop-i in
    let ps = c.args.parameters.now in
    let ds = c.args.list.now in
    let end : l.i ≡ min (length ds) (length ps) = omega arith in
    elim c.else-fit.either [
      | inl w ↦ inl (as_many_differ l.fit l.values ps ds l.i _ end w.1 l.invariant)
      | inr w ↦ inl (one_was_unfit l.values ps ds l.i _ end (rw w at l.invariant))
    ]
