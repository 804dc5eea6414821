use Rattle.std.proofs.Common.{◌≡◌, ◌-◌}
use Rattle.giop_cdr.specs.Reading.{items_at}
use Rattle.giop_cdr.proofs.ItemLoops.{with_front}
use Rattle.giop_msg.specs.RequestHead.{context_at}
use Rattle.giop_msg.proofs.request_head.read_counted.Given as goal

abbrev pub invariant-loop : goal.invariant-loop
invariant-loop g l = with_front l.contexts.items (items_at context_at (l.count - l.counter) l.input) ≡ items_at context_at l.count l.fn.input
