use Rattle.std.proofs.Common.{◌≡◌, drop}
use Rattle.giop_cdr.specs.Output.{items_out}
use Rattle.giop_cdr.specs.Writing.{Grows}
use Rattle.giop_msg.specs.RequestHead.{service_context}
use Rattle.giop_msg.proofs.request_head_writing.append_each.Given as goal

abbrev pub invariant-loop-context : goal.invariant-loop-context
invariant-loop-context l =
    (items_out service_context.written (drop l.context-index l.contexts) l.out ≡ items_out service_context.written l.contexts l.fn.out) × Grows l.fn.out l.out
