use Rattle.std.proofs.Common.{◌≡◌, option_copied}
use Rattle.giop_dumping.specs.Dump.Bodies.{telling_by}
use Rattle.giop_dumping.proofs.DumpLemmas.{ShownOf}
use Rattle.giop_dumping.proofs.dump.dump_with.Given as goal

abbrev pub invariant-messages : goal.invariant-messages
invariant-messages g l = record {
  shown :
      ShownOf (telling_by (option_copied l.fn.teller.interface) l.fn.teller.form l.fn.teller.gather.limit) l.teller.gather.lists l.fn.framer.limit
      (g.R.Read.remaining l.fn.reader) (g.R.Read.remaining l.reader) (g.W.Write.contents l.fn.writer) (g.W.Write.contents l.writer) l.framer.octets l.at;
  limit : l.framer.limit ≡ l.fn.framer.limit;
  form : l.teller.form ≡ l.fn.teller.form;
  interface : option_copied l.teller.interface ≡ option_copied l.fn.teller.interface;
  gathered : l.teller.gather.limit ≡ l.fn.teller.gather.limit;
}
