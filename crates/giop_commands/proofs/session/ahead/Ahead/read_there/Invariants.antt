use Rattle.std.proofs.Common.{◌≤◌, length}
use Rattle.std.specs.Io.KnownBytes.{Keeps, prepend_known}
use Rattle.giop_commands.proofs.session.ahead.Ahead.read_there.Given as goal

abbrev pub invariant-reads : goal.invariant-reads
invariant-reads g l =
    record {
      read : Keeps (prepend_known l.fn.self (g.R.Read.remaining l.fn.reader)) (prepend_known l.self (g.R.Read.remaining l.reader));
      bounded : length l.fn.self ≤ 67108864 → length l.self ≤ 67108864;
    }
