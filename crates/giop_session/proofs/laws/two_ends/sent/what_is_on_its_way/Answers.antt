use Rattle.giop_session.proofs.OnLanes.OnTheWayLemmas.{nothing_left, one_list, refused_by_size}
use Rattle.giop_session.proofs.laws.two_ends.sent.what_is_on_its_way.Goals as goal

pub returns-clause-one : goal.returns-clause-one
returns-clause-one c = one_list

pub returns-clause-none : goal.returns-clause-none
returns-clause-none c = nothing_left

pub returns-clause-fault : goal.returns-clause-fault
returns-clause-fault c = refused_by_size
