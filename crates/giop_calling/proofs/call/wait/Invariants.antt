use Rattle.std.proofs.Common.{◌≡◌}
use Rattle.giop_end.specs.Pumping.{between}
use Rattle.giop_calling.specs.Call.Calling.{are_over, client_hears}
use Rattle.giop_commands.specs.Session.Turns.{WaitsOn}
use Rattle.giop_commands.proofs.OnSession.StepLemmas.{Counted}
use Rattle.giop_calling.proofs.call.wait.Given as goal

abbrev pub invariant-turns : goal.invariant-turns
invariant-turns g l = record {
  waited :
      Counted (WaitsOn (client_hears l.fn.end.interface.now) (are_over l.ids)) l.done
      (between (g.R.Read.remaining l.fn.reader) (g.W.Write.contents l.fn.writer) l.fn.end.outgoing l.fn.end.framer l.fn.end.calls l.fn.end.fault)
      (between (g.R.Read.remaining l.reader) (g.W.Write.contents l.writer) l.end.outgoing l.end.framer l.end.calls l.end.fault);
  others : l.end ≡ record l.fn.end { outgoing = l.end.outgoing; framer = l.end.framer; calls = l.end.calls; fault = l.end.fault };
}
