use Rattle.std.proofs.Common.{◌≡◌, ◌+◌, ◌<◌, ◌^◌, length}
use Rattle.giop_ior.specs.CorbalocReading.{addresses_at}
use Rattle.giop_ior.proofs.ListLemmas.{behind}
use Rattle.giop_ior.proofs.addresses.corbaloc_reading.read_addresses.Given as goal

abbrev pub invariant-loop-first : goal.invariant-loop-first
invariant-loop-first l = record {
  reads : addresses_at l.start l.text ≡ behind l.addresses.items (addresses_at l.at l.rest);
  fits : l.at + length l.rest < 2 ^ 64;
}

abbrev pub decreases-loop-first : goal.decreases-loop-first
decreases-loop-first l = length l.rest
