use Rattle.giop_session.proofs.OnLanes.LaneEventLemmas.{client_continues, client_opens}
use Rattle.giop_session.proofs.laws.two_ends.lane_events.clients_hear_the_lanes_event.Goals as goal

pub returns-clause-opens : goal.returns-clause-opens
returns-clause-opens c = λ interface k q m call c kind waits stands.
    let (event, brings, lanes, hears) = client_opens interface k q m call c kind waits stands in (brings, (event, lanes, hears))

pub returns-clause-continues : goal.returns-clause-continues
returns-clause-continues c = λ interface q cut m unsent c (fragment, order) (stands, pieces).
    client_continues interface q cut m unsent c fragment order stands pieces
