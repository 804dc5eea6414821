use Rattle.std.proofs.Common.{◌≡◌}
use Rattle.giop_commands.proofs.DumpLemmas.{ShownOf}
use Rattle.giop_commands.proofs.dump.dump_stream.Given as goal

abbrev pub invariant-messages : goal.invariant-messages
invariant-messages g l = record {
  shown :
      ShownOf l.fn.limit (g.R.Read.remaining l.fn.reader) (g.R.Read.remaining l.reader) (g.W.Write.contents l.fn.writer) (g.W.Write.contents l.writer)
      l.framer.octets l.at;
  limit : l.framer.limit ≡ l.fn.limit;
}
