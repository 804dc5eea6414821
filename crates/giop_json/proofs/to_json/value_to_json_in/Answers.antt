use Rattle.std.proofs.Common.{sym}
use Rattle.giop_types.specs.Values.Views.{value_view}
use Rattle.giop_json.proofs.JsonBack.{back_by_checked}
use Rattle.giop_json.proofs.to_json.value_to_json_in.Goals as goal

pub returns-clause-back : goal.returns-clause-back
returns-clause-back c =
    back_by_checked c.args.numbers c.args.desc.now (value_view c.args.value.now) _
    (rw c.desc.ensures.same at c.in_ok-to_json.ensures) (sym c.if-not-fits.ensures)
