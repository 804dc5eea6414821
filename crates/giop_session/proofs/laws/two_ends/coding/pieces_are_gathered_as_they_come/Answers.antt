use Rattle.giop_session.proofs.OnLanes.LaneAtEndsLemmas.{begun, longer}
use Rattle.giop_session.proofs.laws.two_ends.coding.pieces_are_gathered_as_they_come.Goals as goal

pub returns-clause-first : goal.returns-clause-first
returns-clause-first c = begun

pub returns-clause-more : goal.returns-clause-more
returns-clause-more c = longer
