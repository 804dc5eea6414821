use Rattle.std.proofs.Common.{◌-◌, length, arith}
use Rattle.giop_json.proofs.OrdinalLemmas.{none_put, name_put, all_put}
use Rattle.giop_json.proofs.ordinals.in_order.Goals as goal

pub loop-ordinal-init : goal.loop-ordinal-init
loop-ordinal-init c =
    (omega arith, none_put c.args.names.now (length c.args.names.now) c.new-ordered.result (omega arith) c.new-ordered.ensures.empty)

pub loop-ordinal-preserved : goal.loop-ordinal-preserved
loop-ordinal-preserved c =
    let l = c.loop-ordinal in (
      omega (arith, l.invariant.0, c.loop-ordinal-test.true),
      name_put c.args.names.now (l.ordinal - 1) l.ordinal c.index-names-ordinal.result
          c.as_slice.result l.ordered c.insert.new.self (omega (arith, l.invariant.0, c.loop-ordinal-test.true)) c.index-names-ordinal.is c.as_slice.ensures
          (omega (arith, c.loop-ordinal-test.true)) c.in_ok-insert.ensures.updates.0 l.invariant.1,
    )

pub returns-clause-ok : goal.returns-clause-ok
returns-clause-ok c =
    let l = c.loop-ordinal in
    all_put c.args.names.now l.ordinal l.ordered (omega (arith, c.loop-ordinal-test.false)) l.invariant.1
