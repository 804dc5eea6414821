use Rattle.std.proofs.Common.{◌≡◌, ◌+◌, ◌-◌, ◌*◌, ◌≤◌, ◌++◌, length, take}
use Rattle.std.specs.Vec.{vec_len, vec_capacity}
use Rattle.giop_cdr.specs.Longs.{longs_octets}
use Rattle.giop_cdr.proofs.output.longs.push_longs.Given as goal

abbrev pub invariant-loop-long : goal.invariant-loop-long
invariant-loop-long l = record {
  octets : l.octets.items ≡ l.fn.octets.items ++ longs_octets l.order (take l.long-index l.longs);
  room : vec_len l.octets + 4 * (length l.longs - l.long-index) ≤ vec_capacity l.octets;
}
