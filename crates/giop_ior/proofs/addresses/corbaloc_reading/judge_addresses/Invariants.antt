use Rattle.std.proofs.Common.{◌≡◌, ◌+◌, ◌<◌, ◌^◌, length, List}
use Rattle.giop_ior.specs.declared.addresses.address.Address.{Address}
use Rattle.giop_ior.specs.CorbalocReading.{addresses_at}
use Rattle.giop_ior.proofs.ListLemmas.{behind}
use Rattle.giop_ior.proofs.addresses.corbaloc_reading.judge_addresses.Given as goal

abbrev pub invariant-loop-first : goal.invariant-loop-first
invariant-loop-first l = record {
  reads : (front : List Address) × (addresses_at l.start l.text ≡ behind front (addresses_at l.at l.rest));
  fits : l.at + length l.rest < 2 ^ 64;
}

abbrev pub decreases-loop-first : goal.decreases-loop-first
decreases-loop-first l = length l.rest
