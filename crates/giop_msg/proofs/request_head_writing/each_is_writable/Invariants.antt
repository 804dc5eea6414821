use Rattle.std.proofs.Common.{◌≡◌, take, true}
use Rattle.std.specs.List.{list_all}
use Rattle.giop_msg.specs.RequestHead.{service_context}
use Rattle.giop_msg.proofs.request_head_writing.each_is_writable.Given as goal

abbrev pub invariant-loop-context : goal.invariant-loop-context
invariant-loop-context l = list_all service_context.fits (take l.context-index l.contexts) ≡ true
