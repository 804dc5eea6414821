use Rattle.giop_msg.specs.RequestHead.{service_context}
use Rattle.giop_cdr.proofs.WriterLemmas.{grows_then, item_written, items_written}
use Rattle.giop_msg.proofs.request_head_writing.append_each.Goals as goal

pub loop-context-preserved : goal.loop-context-preserved
loop-context-preserved c = (
  rw c.in_ok-append_context.ensures.0 (item_written service_context.written c.args.contexts.now c.loop-context.context-index c.context-item.result
      c.loop-context.out _ c.loop-context-test.true c.context-item.is c.loop-context.invariant.0),
  grows_then c.args.out.now c.loop-context.out c.append_context.new.out c.loop-context.invariant.1 c.in_ok-append_context.ensures.1,
)

pub returns : goal.returns
returns c = (
  items_written service_context.written c.args.contexts.now c.loop-context.context-index c.loop-context.out _ c.loop-context-test.false c.loop-context.invariant.0,
  c.loop-context.invariant.1,
)
