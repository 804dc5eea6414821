use Rattle.std.proofs.Common.{◌≡◌, take, true}
use Rattle.std.specs.List.{list_all}
use Rattle.giop_msg.specs.RequestHeadWriting.{is_countable}
use Rattle.giop_msg.proofs.request_head_writing.each_is_countable.Given as goal

abbrev pub invariant-loop-context : goal.invariant-loop-context
invariant-loop-context l = list_all (λ context. is_countable context.octets) (take l.context-index l.contexts) ≡ true
