use Rattle.std.proofs.Common.{◌≡◌, ◌+◌, ◌-◌, ◌≤◌, length, drop}
use Rattle.giop_ior.specs.CorbalocReading.{key_fault}
use Rattle.giop_ior.proofs.addresses.key_text.judge_key.Given as goal

abbrev pub invariant-loop-i : goal.invariant-loop-i
invariant-loop-i l = record {
  same : key_fault l.at l.text ≡ key_fault (l.at + l.i) (drop l.i l.text);
  within : l.i ≤ length l.text;
}

abbrev pub decreases-loop-i : goal.decreases-loop-i
decreases-loop-i l = length l.text - l.i
