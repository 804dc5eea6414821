use Rattle.giop_ior.proofs.WritingLemmas.{listed_on}
use Rattle.giop_ior.proofs.addresses.corbaloc_writing.append_addresses.Goals as goal

pub loop-i-preserved : goal.loop-i-preserved
loop-i-preserved c =
    listed_on c.args.text.now.items c.loop-i.text.items c.append_next.new.text.items c.args.addresses.now c.loop-i.i c.index-addresses-i.result
    c.loop-i-test.true c.loop-i.invariant c.in_ok-append_next.ensures c.index-addresses-i.is
