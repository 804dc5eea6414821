use Rattle.std.proofs.Common.{◌≡◌, None}
use Rattle.giop_end.specs.Hearing.Heard.{hears_by}
use Rattle.giop_commands.proofs.CheckLemmas.{SoFar}
use Rattle.giop_commands.proofs.check.hear.Given as goal

abbrev pub invariant-pieces : goal.invariant-pieces
invariant-pieces g l = record {
  heard :
      SoFar (hears_by g.S.CallRule.next g.S.CallRule.closed g.S.Side.gathering g.S.Hearing.in_call g.S.Hearing.breaks
      (g.S.Hearing.act_by l.fn.end.interface.now))
      (g.R.Read.remaining l.fn.reader) (g.R.Read.remaining l.reader) l.fn.end.framer l.fn.end.calls l.end.framer l.end.calls;
  sound : l.end.fault ≡ None;
  interface : l.end.interface.now ≡ l.fn.end.interface.now;
}
