use Rattle.std.proofs.Common.{◌≡◌, ◌-◌, ◌≤◌, take, length, vec_len}
use Rattle.giop_frag.proofs.chain.Chain.to_list.Given as goal

abbrev pub invariant-runs : goal.invariant-runs
invariant-runs l = record {
  copied : l.octets.items ≡ take (length l.octets.items) l.self;
  within : length l.octets.items ≤ length l.self;
}

abbrev pub decreases-runs : goal.decreases-runs
decreases-runs l = length l.self - vec_len l.octets
