use Rattle.giop_session.proofs.OnLanes.LaneEventLemmas.{server_continues, server_opens, server_stops}
use Rattle.giop_session.proofs.laws.two_ends.lane_events.servers_hear_the_lanes_event.Goals as goal

pub returns-clause-opens : goal.returns-clause-opens
returns-clause-opens c = server_opens

pub returns-clause-continues : goal.returns-clause-continues
returns-clause-continues c = λ interface k cut m unsent asks (fragment, order).
    server_continues interface k cut m unsent asks fragment order

pub returns-clause-stops : goal.returns-clause-stops
returns-clause-stops c = server_stops
