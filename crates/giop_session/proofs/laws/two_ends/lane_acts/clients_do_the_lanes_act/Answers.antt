use Rattle.giop_session.specs.Worlds.Coding.{coding}
use Rattle.giop_session.proofs.OnLanes.LaneActLemmas.{client_heard, client_refused}
use Rattle.giop_session.proofs.laws.two_ends.lane_acts.clients_do_the_lanes_act.Goals as goal

pub returns-clause-heard : goal.returns-clause-heard
returns-clause-heard c = λ interface acts lane id m later h k runs.
    client_heard interface lane id m later h k (c.ends_of_one_lane_agree.ensures.value (coding interface) acts lane runs)

pub returns-clause-refused : goal.returns-clause-refused
returns-clause-refused c = λ interface acts lane id m later h k why runs.
    client_refused interface lane id m later h k why (c.ends_of_one_lane_agree.ensures.value (coding interface) acts lane runs)
