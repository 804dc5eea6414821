use Rattle.std.proofs.Common.{arith, refl}
use Rattle.giop_session.proofs.OnActs.LastLemmas.{client_sends_none}
use Rattle.giop_session.proofs.end.calling.ClientEnd.send.Goals as goal

pub returns-then-not-has_piece-clause-sent : goal.returns-then-not-has_piece-clause-sent
returns-then-not-has_piece-clause-sent c = λ sound.
    client_sends_none c.args.self.now.calls c.args.id c.args.self.now.outgoing _
    (first_of (cc (c.has_piece.ensures, c.if-not-has_piece.true), grind (arith, c.has_piece.ensures, c.if-not-has_piece.true))) refl
