use Rattle.giop_session.proofs.OnActs.IdLemmas.{call_named, cancel_named, located_named, reply_named}
use Rattle.giop_session.proofs.laws.two_ends.sent.what_is_sent_names_its_id.Goals as goal

pub returns-clause-call : goal.returns-clause-call
returns-clause-call c = call_named

pub returns-clause-reply : goal.returns-clause-reply
returns-clause-reply c = reply_named

pub returns-clause-located : goal.returns-clause-located
returns-clause-located c = located_named

pub returns-clause-cancelled : goal.returns-clause-cancelled
returns-clause-cancelled c = cancel_named
