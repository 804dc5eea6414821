use Rattle.std.proofs.Common.{rules, arith}
use Rattle.giop_ior.proofs.CutLemmas.{cut_length}
use Rattle.giop_ior.proofs.ListLemmas.{reads_on, stops_or_wants, ends, stops_at_end_or_wants}
use Rattle.giop_ior.proofs.addresses.corbaloc_reading.read_addresses.Goals as goal

pub returns-in_err-read_address : goal.returns-in_err-read_address
returns-in_err-read_address c =
    let told = stops_or_wants c.loop-first.at c.loop-first.rest.now _ _ c.loop-first.addresses.items _ _ c.loop-first.invariant.reads c.in-Some.ensures
    c.in_err-read_address.ensures in
    search rules

pub loop-first-preserved : goal.loop-first-preserved
loop-first-preserved c =
    let parts = cut_length 44 c.loop-first.rest.now c.in-Some.first.now c.in-Some.more.now c.in-Some.ensures in
    record {
      reads = rw c.in_ok-push.ensures.ok
          (reads_on c.loop-first.at _ c.loop-first.rest.now _ _ c.loop-first.addresses.items _ _ c.loop-first.invariant.reads c.in-Some.ensures
          c.in_ok-read_address.ensures (omega arith));
      fits = omega (arith, c.loop-first.invariant.fits);
    }

pub returns-in_err-read_address-2 : goal.returns-in_err-read_address-2
returns-in_err-read_address-2 c =
    let told = stops_at_end_or_wants c.loop-first.at c.loop-first.rest.now c.loop-first.addresses.items _ _ c.loop-first.invariant.reads c.in_default.ensures
    c.in_err-read_address-2.ensures in
    search rules

pub returns : goal.returns
returns c =
    let read = ends c.loop-first.at c.loop-first.rest.now c.loop-first.addresses.items _ _ c.loop-first.invariant.reads c.in_default.ensures
    c.in_ok-read_address-2.ensures in
    rw (c.from.ensures, c.in_ok-push-2.ensures.ok) read
