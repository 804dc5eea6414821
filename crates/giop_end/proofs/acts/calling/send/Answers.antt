use Rattle.std.proofs.Common.{arith, refl}
use Rattle.giop_end.proofs.OnActs.LastLemmas.{client_sends_none}
use Rattle.giop_end.proofs.acts.calling.send.Goals as goal

pub returns-then-not-has_piece-clause-sent : goal.returns-then-not-has_piece-clause-sent
returns-then-not-has_piece-clause-sent c =
    client_sends_none c.args.calls.now c.args.id c.args.outgoing.now _
    (first_of (cc (c.has_piece.ensures, c.if-not-has_piece.true), grind (arith, c.has_piece.ensures, c.if-not-has_piece.true))) refl
