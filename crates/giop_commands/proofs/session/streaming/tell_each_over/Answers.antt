use Rattle.std.proofs.Common.{◌∙◌, refl}
use Rattle.giop_show.proofs.AppendsLemmas.{Appends-nil}
use Rattle.giop_commands.proofs.OnSession.StreamingLemmas.{same_rule, table_stepped, tables_on, unfailed_on}
use Rattle.giop_commands.proofs.OnSession.ToldLemmas.{one_more_out, one_more_told}
use Rattle.giop_commands.proofs.session.streaming.tell_each_over.Goals as goal

pub loop-id-init : goal.loop-id-init
loop-id-init g c = record { text = Appends-nil _; left = refl; others = refl }

pub tell_if_over-requires : goal.tell_if_over-requires
tell_if_over-requires g c = unfailed_on c.args.end.now c.loop-id.end c.loop-id.invariant.others ∙ c.requires.fault

pub loop-id-preserved : goal.loop-id-preserved
loop-id-preserved g c =
    let rule = same_rule c.args.end.now c.loop-id.end c.loop-id.invariant.others in
    record {
      text = one_more_told _ _ c.args.ids.now c.loop-id.id-index 0 c.args.end.now.calls.table c.loop-id.end.calls.table
          _ _ _ c.requires.apart c.loop-id-test.true
          c.loop-id.invariant.left c.loop-id.invariant.text (rw rule at c.in_ok-tell_if_over.ensures.text);
      left = one_more_out _ c.args.ids.now c.loop-id.id-index 0 c.args.end.now.calls.table c.loop-id.end.calls.table c.tell_if_over.new.end.calls.table
          c.loop-id-test.true c.loop-id.invariant.left
          (table_stepped c.args.end.now c.loop-id.end c.tell_if_over.new.end g.R.CallRule.closed _
          c.loop-id.invariant.others c.in_ok-tell_if_over.ensures.left);
      others = tables_on c.args.end.now c.loop-id.end c.tell_if_over.new.end _ c.loop-id.invariant.others c.in_ok-tell_if_over.ensures.left;
    }
