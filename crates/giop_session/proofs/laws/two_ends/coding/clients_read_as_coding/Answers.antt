use Rattle.giop_session.proofs.OnLanes.LaneAtEndsLemmas.{first_reply, last_reply, more_reply, whole_reply}
use Rattle.giop_session.proofs.laws.two_ends.coding.clients_read_as_coding.Goals as goal

pub returns-clause-whole : goal.returns-clause-whole
returns-clause-whole c = whole_reply

pub returns-clause-first : goal.returns-clause-first
returns-clause-first c = first_reply

pub returns-clause-more : goal.returns-clause-more
returns-clause-more c = λ interface q cut m unsent (fragment, order) more. more_reply interface q cut m unsent fragment more order

pub returns-clause-last : goal.returns-clause-last
returns-clause-last c = λ interface q cut m unsent (fragment, order) last. last_reply interface q cut m unsent fragment last order
