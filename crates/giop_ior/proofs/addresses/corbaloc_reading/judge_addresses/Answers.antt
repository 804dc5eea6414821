use Rattle.std.proofs.Common.{rules, arith}
use Rattle.giop_ior.proofs.CutLemmas.{cut_length}
use Rattle.giop_ior.proofs.ListLemmas.{reads_on, stops, ends, stops_at_end}
use Rattle.giop_ior.proofs.addresses.corbaloc_reading.judge_addresses.Goals as goal

pub returns-in_err-address_at : goal.returns-in_err-address_at
returns-in_err-address_at c =
    let told = stops c.loop-first.at c.loop-first.rest.now _ _ c.loop-first.invariant.reads.0 _ _ c.loop-first.invariant.reads.1 c.in-Some.ensures
    c.in_err-address_at.ensures in
    search rules

pub loop-first-preserved : goal.loop-first-preserved
loop-first-preserved c =
    let parts = cut_length 44 c.loop-first.rest.now c.in-Some.first.now c.in-Some.more.now c.in-Some.ensures in
    record {
      reads = (
        _,
        reads_on c.loop-first.at _ c.loop-first.rest.now _ _ c.loop-first.invariant.reads.0 _ _ c.loop-first.invariant.reads.1 c.in-Some.ensures
            c.in_ok-address_at.ensures (omega arith),
      );
      fits = omega (arith, c.loop-first.invariant.fits);
    }

pub returns-in_err-address_at-2 : goal.returns-in_err-address_at-2
returns-in_err-address_at-2 c =
    let told = stops_at_end c.loop-first.at c.loop-first.rest.now c.loop-first.invariant.reads.0 _ _ c.loop-first.invariant.reads.1 c.in_default.ensures
    c.in_err-address_at-2.ensures in
    search rules

pub returns : goal.returns
returns c =
    rw (ends c.loop-first.at c.loop-first.rest.now c.loop-first.invariant.reads.0 _ _ c.loop-first.invariant.reads.1 c.in_default.ensures
    c.in_ok-address_at-2.ensures) (search rules)
