use Rattle.std.proofs.Common.{◌≤◌, length}
use Rattle.std.specs.Io.KnownBytes.{Keeps, prepend_known}
use Rattle.giop_commands.proofs.session.ahead.Ahead.write.Given as goal

abbrev pub invariant-tries : goal.invariant-tries
invariant-tries g l = record {
  read :
      Keeps (prepend_known l.fn.self (g.R.Read.remaining l.fn.reader)) (prepend_known l.self (g.R.Read.remaining l.reader));
  bounded : length l.fn.self ≤ 67108864 → length l.self ≤ 67108864;
  written : Keeps (g.W.Write.contents l.fn.writer) (g.W.Write.contents l.writer);
}
