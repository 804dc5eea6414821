use Rattle.giop_session.proofs.OnActs.SentLemmas.{call_framed, cancel_framed, located_framed, reply_framed}
use Rattle.giop_session.proofs.laws.two_ends.sent.what_is_sent_is_framed.Goals as goal

pub returns-clause-call : goal.returns-clause-call
returns-clause-call c = call_framed

pub returns-clause-reply : goal.returns-clause-reply
returns-clause-reply c = reply_framed

pub returns-clause-located : goal.returns-clause-located
returns-clause-located c = located_framed

pub returns-clause-cancelled : goal.returns-clause-cancelled
returns-clause-cancelled c = cancel_framed
