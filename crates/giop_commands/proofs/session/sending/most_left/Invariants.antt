use Rattle.std.proofs.Common.{◌≡◌, map, take}
use Rattle.giop_end.specs.Hearing.Heard.{in_call}
use Rattle.giop_commands.specs.Session.Acts.{left_at, most}
use Rattle.giop_commands.proofs.session.sending.most_left.Given as goal

abbrev pub invariant-loop-id : goal.invariant-loop-id
invariant-loop-id g l =
    l.most
    ≡ most (map (left_at g.R.CallRule.next g.R.CallRule.closed g.R.Side.gathering in_call g.R.SendsPieces.sends l.end.fault g.R.Sender.left_in
    l.end.calls)
    (take l.id-index l.ids))
