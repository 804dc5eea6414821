use Rattle.giop_cdr.proofs.Writing.LongsWritten.{longs_written}
use Rattle.giop_cdr.proofs.output.writer.CdrOut.write_longs.Goals as goal

pub returns : goal.returns
returns c =
    let done = rw (c.ulong_octets-count.ensures, c.order.ensures) at c.append_longs.ensures in
    rw (longs_written c.args.self.now c.args.longs.now) done
