use Rattle.std.proofs.Common.{◌≡◌, ◌+◌, ◌-◌, ◌≤◌, length, map, take}
use Rattle.std.specs.Vec.{vec_len, vec_capacity}
use Rattle.giop_cdr.specs.Longs.{long_of}
use Rattle.giop_cdr.proofs.input.longs.longs_in.Given as goal

abbrev pub invariant-loop-four : goal.invariant-loop-four
invariant-loop-four l = record {
  longs : l.longs.items ≡ map (long_of l.order) (take l.four-index l.fours);
  room : vec_len l.longs + (length l.fours - l.four-index) ≤ vec_capacity l.longs;
}
