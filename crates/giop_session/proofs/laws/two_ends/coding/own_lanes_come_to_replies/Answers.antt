use Rattle.giop_session.proofs.OnLanes.OwnRunLemmas.{call_located, call_replied}
use Rattle.giop_session.proofs.laws.two_ends.coding.own_lanes_come_to_replies.Goals as goal

pub returns-clause-replied : goal.returns-clause-replied
returns-clause-replied c = λ interface q r one other (asks, version) (call, reply).
    call_replied interface q r one other asks version call reply

pub returns-clause-located : goal.returns-clause-located
returns-clause-located c = λ interface q here one other (call, reply).
    let (lane, told, run, done) = call_located interface q here one other call reply in (told, (lane, run, done))
