use Rattle.std.proofs.Common.{◌≤◌, ◌∙◌, length, refl, arith}
use Rattle.giop_commands.proofs.StreamingLemmas.{over_passed, none_passed, table_stepped, tables_on, unfailed_on}
use Rattle.giop_commands.proofs.session.streaming.take_over.Goals as goal

pub loop-id-init : goal.loop-id-init
loop-id-init g c = record { left = refl; others = refl }

pub take_if_over-requires : goal.take_if_over-requires
take_if_over-requires g c = unfailed_on c.args.end.now c.loop-id.end c.loop-id.invariant.others ∙ c.requires

pub loop-id-preserved : goal.loop-id-preserved
loop-id-preserved g c = record {
  left = over_passed _ c.args.ids.now c.loop-id.id-index 0 c.loop-id.end.calls.table c.take_if_over.new.end.calls.table _ c.loop-id-test.true
      (table_stepped c.args.end.now c.loop-id.end c.take_if_over.new.end g.R.CallRule.closed _ c.loop-id.invariant.others c.take_if_over.ensures)
      c.loop-id.invariant.left;
  others = tables_on c.args.end.now c.loop-id.end c.take_if_over.new.end _ c.loop-id.invariant.others c.take_if_over.ensures;
}

pub returns : goal.returns
returns g c =
    let all : length c.args.ids.now ≤ c.loop-id.id-index = omega arith in
    rw (← none_passed _ c.args.ids.now c.loop-id.id-index c.loop-id.end.calls.table _ all c.loop-id.invariant.left) c.loop-id.invariant.others
