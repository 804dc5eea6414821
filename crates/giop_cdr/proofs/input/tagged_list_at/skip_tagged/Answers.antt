use Rattle.std.proofs.Common.{ap}
use Rattle.std.proofs.lemmas.Result.{err_from_is_err_and}
use Rattle.giop_cdr.specs.Reading.Values.{past, items_at}
use Rattle.giop_cdr.specs.Reading.View.{tagged_at}
use Rattle.giop_cdr.proofs.Reading.ItemLoops.{skips_on, skips_end, skips_done}
use Rattle.giop_cdr.proofs.input.tagged_list_at.skip_tagged.Goals as goal

pub returns-in_err-view_tagged : goal.returns-in_err-view_tagged
returns-in_err-view_tagged g c =
    let p = err_from_is_err_and c.from_residual.result c.from_residual.ensures.1 in
    rw (p.1, p.2) (skips_end (tagged_at g.I.Tagged.made) c.args.count c.loop.counter c.loop.input c.in_err-view_tagged.field-0.0
    (items_at (tagged_at g.I.Tagged.made) c.args.count c.args.input.now) c.loop-test.true c.in_err-view_tagged.ensures.0 c.loop.invariant)

pub loop-preserved : goal.loop-preserved
loop-preserved g c = skips_on (tagged_at g.I.Tagged.made) c.args.count c.loop.counter c.loop.input c.view_tagged.new.input
    (items_at (tagged_at g.I.Tagged.made) c.args.count c.args.input.now) c.loop-test.true (ap past c.in_ok-view_tagged.ensures) c.loop.invariant

pub returns : goal.returns
returns g c = skips_done (tagged_at g.I.Tagged.made) c.args.count c.loop.counter c.loop.input
    (items_at (tagged_at g.I.Tagged.made) c.args.count c.args.input.now) c.loop-test.false c.loop.invariant
