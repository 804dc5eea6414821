use Rattle.giop_end.specs.Pumping.{between}
use Rattle.giop_commands.proofs.OnSession.TurnLemmas.{broke_off}
use Rattle.giop_commands.proofs.session.goes_on.Goals as goal

pub returns-in-Err-Session-clause-goes : goal.returns-in-Err-Session-clause-goes
returns-in-Err-Session-clause-goes g c =
    broke_off _ _
    (between (g.I.Read.remaining c.turn.new.reader) (g.W.Write.contents c.turn.new.writer) c.turn.new.end.outgoing c.turn.new.end.framer c.turn.new.end.calls
    c.turn.new.end.fault)
    (g.W.Write.contents c.break_off.new.writer) c.in-Err-Session.why c.break_off.result (rw c.in-Err-Session.field-0-is at c.in-Err-Session.ensures.turned)
    c.break_off.ensures.ok c.break_off.ensures.err
