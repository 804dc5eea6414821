use Rattle.giop_session.proofs.OnLanes.LaneAtEndsLemmas.{call_seen, located_seen, reply_seen}
use Rattle.giop_session.proofs.laws.two_ends.coding.what_is_sent_is_a_lanes.Goals as goal

pub returns-clause-call : goal.returns-clause-call
returns-clause-call c = call_seen

pub returns-clause-reply : goal.returns-clause-reply
returns-clause-reply c = reply_seen

pub returns-clause-located : goal.returns-clause-located
returns-clause-located c = located_seen
