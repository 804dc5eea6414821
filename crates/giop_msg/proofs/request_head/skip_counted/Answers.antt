use Rattle.giop_cdr.specs.Reading.{items_at}
use Rattle.giop_cdr.proofs.ItemLoops.{skips_on, skips_end, skips_done}
use Rattle.std.proofs.lemmas.Result.{err_from_is_err_and}
use Rattle.giop_msg.specs.RequestHead.{context_at}
use Rattle.giop_msg.proofs.request_head.skip_counted.Goals as goal

pub returns-in_err-skip_context : goal.returns-in_err-skip_context
returns-in_err-skip_context g c =
    let p = err_from_is_err_and c.from_residual.result c.from_residual.ensures.1 in
    rw (p.1, p.2) (skips_end context_at c.args.count c.loop.counter c.loop.input c.in_err-skip_context.field-0.0
    (items_at context_at c.args.count c.args.input.now) c.loop-test.true c.in_err-skip_context.ensures c.loop.invariant)

pub loop-preserved : goal.loop-preserved
loop-preserved g c = skips_on context_at c.args.count c.loop.counter c.loop.input c.skip_context.new.input
    (items_at context_at c.args.count c.args.input.now) c.loop-test.true c.in_ok-skip_context.ensures c.loop.invariant

pub returns : goal.returns
returns g c = skips_done context_at c.args.count c.loop.counter c.loop.input (items_at context_at c.args.count c.args.input.now)
    c.loop-test.false c.loop.invariant
