-- The octets so far stand at the back, and the others have room.
use Rattle.std.proofs.Common.{◌≡◌, ◌+◌, ◌≤◌, ◌++◌, take}
use Rattle.std.specs.VecDeque.{deque_len, deque_capacity}
use Rattle.giop_commands.proofs.session.ahead.push_all.Given as goal

abbrev pub invariant-loop-octet : goal.invariant-loop-octet
invariant-loop-octet l = record {
  items : l.queue.items ≡ l.fn.queue.items ++ take l.octet-index l.octets;
  len : deque_len l.queue ≡ deque_len l.fn.queue + l.octet-index;
  capacity : deque_capacity l.fn.queue ≤ deque_capacity l.queue;
}
