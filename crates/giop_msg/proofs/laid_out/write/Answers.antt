use Rattle.std.proofs.Common.{rules}
use Rattle.giop_ior.proofs.BackLemmas.{appended_back}
use Rattle.giop_msg.proofs.BackLemmas.{held_where_ok}
use Rattle.giop_msg.proofs.laid_out.write.Goals as goal

pub returns : goal.returns
returns g c =
    let layout = g.V.LaidOut.layout c.args.value.now in
    let held = held_where_ok c.append.result (layout.holds c.args.value.now) (cc) c.append.ensures.held in
    record {
      value = search rules;
      err = search rules;
      unfit = search rules;
      held = held;
      back = appended_back c.requires c.args.value.now c.args.out.now c.append.new.out c.append.result (cc) (cc)
          c.append.ensures.held c.append.ensures.written;
    }
