use Rattle.std.proofs.Common.{◌≡◌}
use Rattle.giop_end.specs.Hearing.Heard.{hears_by}
use Rattle.giop_end.specs.Pumping.{between}
use Rattle.giop_end.proofs.PumpingLemmas.{SoFar}
use Rattle.giop_end.proofs.pumping.pump.Given as goal

abbrev pub invariant-turns : goal.invariant-turns
invariant-turns g l = record {
  so_far :
      SoFar (hears_by g.R.CallRule.next g.R.CallRule.closed g.R.Side.gathering g.R.Hearing.in_call g.R.Hearing.breaks
      (g.R.Hearing.act_by l.fn.end.interface.now))
      l.done
      (between (g.I.Read.remaining l.fn.reader) (g.W.Write.contents l.fn.writer) l.fn.end.outgoing l.fn.end.framer l.fn.end.calls l.fn.end.fault)
      (between (g.I.Read.remaining l.reader) (g.W.Write.contents l.writer) l.end.outgoing l.end.framer l.end.calls l.end.fault);
  interface : l.end.interface.now ≡ l.fn.end.interface.now;
  others :
      l.end ≡ record l.fn.end { outgoing = l.end.outgoing; framer = l.end.framer; calls = l.end.calls; fault = l.end.fault };
}
