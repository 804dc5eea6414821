use Rattle.giop_session.proofs.OnLanes.LaneAtEndsLemmas.{first_call, last_call, more_call, whole_call}
use Rattle.giop_session.proofs.laws.two_ends.coding.servers_read_as_coding.Goals as goal

pub returns-clause-whole : goal.returns-clause-whole
returns-clause-whole c = whole_call

pub returns-clause-first : goal.returns-clause-first
returns-clause-first c = first_call

pub returns-clause-more : goal.returns-clause-more
returns-clause-more c = λ interface k cut m unsent (fragment, order) more. more_call interface k cut m unsent fragment more order

pub returns-clause-last : goal.returns-clause-last
returns-clause-last c = λ interface k cut m unsent asks (fragment, order) last. last_call interface k cut m unsent asks fragment last order
