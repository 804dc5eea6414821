use Rattle.laws_in_use.specs.Asking.{unknown_big}
use Rattle.laws_in_use.specs.Locating.{key, key_big}
use Rattle.giop_session.specs.Worlds.OwnLane.{located_run}
use Rattle.laws_in_use.proofs.SentPlans.{answers_so, asks_key_so}
use Rattle.laws_in_use.proofs.own_lanes.a_lane_comes_to_an_answer.Goals as goal
use Rattle.std.proofs.Common.{false}

pub returns-clause-sent : goal.returns-clause-sent
returns-clause-sent c = λ interface. (asks_key_so interface, answers_so)

pub returns-clause-comes : goal.returns-clause-comes
returns-clause-comes c = λ interface.
    let (told, (lane, run, done)) =
    c.own_lanes_come_to_replies.ensures.located interface key false key_big unknown_big (returns-clause-sent c interface) in
    (lane, told, run, done)

pub returns-clause-answer : goal.returns-clause-answer
returns-clause-answer c = λ interface lane told run is.
    ((c.own_ends_of_one_lane_agree.ensures.own interface (located_run key false key_big unknown_big) lane run).2 key told is).3
