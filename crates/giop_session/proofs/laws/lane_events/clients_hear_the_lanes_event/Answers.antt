use Rattle.giop_session.proofs.OnLanes.LaneEventLemmas.{client_continues, client_opens}
use Rattle.giop_session.proofs.laws.lane_events.clients_hear_the_lanes_event.Goals as goal

pub returns-clause-opens : goal.returns-clause-opens
returns-clause-opens c = client_opens

pub returns-clause-continues : goal.returns-clause-continues
returns-clause-continues c = client_continues
