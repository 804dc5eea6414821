use Rattle.giop_session.proofs.LaneAtEndsLemmas.{last_call, last_reply, whole_call, whole_reply}
use Rattle.giop_session.proofs.laws.coding.coding_is_how_ends_read.Goals as goal

pub returns-clause-whole_call : goal.returns-clause-whole_call
returns-clause-whole_call c = whole_call

pub returns-clause-last_call : goal.returns-clause-last_call
returns-clause-last_call c = last_call

pub returns-clause-whole_reply : goal.returns-clause-whole_reply
returns-clause-whole_reply c = whole_reply

pub returns-clause-last_reply : goal.returns-clause-last_reply
returns-clause-last_reply c = last_reply
