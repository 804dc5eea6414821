use Rattle.giop_session.proofs.OnLanes.CodingLemmas.{call_read, located_read, reply_read}
use Rattle.giop_session.proofs.laws.two_ends.coding.what_is_sent_is_read.Goals as goal

pub returns-clause-call : goal.returns-clause-call
returns-clause-call c = call_read

pub returns-clause-reply : goal.returns-clause-reply
returns-clause-reply c = reply_read

pub returns-clause-located : goal.returns-clause-located
returns-clause-located c = located_read
