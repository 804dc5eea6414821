use Rattle.giop_calls.specs.Lane.{new}
use Rattle.giop_session.specs.Worlds.Coding.{coding}
use Rattle.giop_session.proofs.OnLanes.CodingLemmas.{own_runs}
use Rattle.giop_session.proofs.laws.two_ends.coding.own_ends_of_one_lane_agree.Goals as goal

pub returns-clause-read : goal.returns-clause-read
returns-clause-read c = λ interface. c.ends_of_one_lane_agree.ensures.value (coding interface)

pub returns-clause-own : goal.returns-clause-own
returns-clause-own c = λ interface acts lane runs.
    c.ends_of_one_lane_agree.ensures.value (coding interface) acts lane (own_runs interface new acts lane runs)
