use Rattle.giop_session.proofs.OnLanes.OwnRunLemmas.{call_located, call_replied}
use Rattle.giop_session.proofs.laws.coding.own_lanes_come_to_replies.Goals as goal

pub returns-clause-replied : goal.returns-clause-replied
returns-clause-replied c = call_replied

pub returns-clause-located : goal.returns-clause-located
returns-clause-located c = call_located
