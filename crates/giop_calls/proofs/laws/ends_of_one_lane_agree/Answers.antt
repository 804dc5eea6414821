use Rattle.giop_calls.proofs.LaneSound.{sound}
use Rattle.giop_calls.proofs.laws.ends_of_one_lane_agree.Goals as goal

pub returns : goal.returns
returns c = record { value = sound }
