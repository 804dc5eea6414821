use Rattle.std.proofs.Common.{◌≡◌, ◌-◌}
use Rattle.giop_cdr.specs.Reading.{past, items_at}
use Rattle.giop_msg.specs.RequestHead.{context_at}
use Rattle.giop_msg.proofs.request_head.skip_counted.Given as goal

abbrev pub invariant-loop : goal.invariant-loop
invariant-loop g l = past (items_at context_at (l.count - l.counter) l.input) ≡ past (items_at context_at l.count l.fn.input)
