use Rattle.std.proofs.Common.{refl, sym, subst}
use Rattle.std.specs.Ordering.{nat_cmp}
use Rattle.std.specs.FinMap as finite
use Rattle.giop_calls.specs.ClientTable.{is_closed, is_gathering, left_of, client_step}
use Rattle.giop_end.specs.Ends.Begun.{no_calls}
use Rattle.giop_table.specs.CallTable.{at}
use Rattle.giop_session.specs.Runs.Events.{own_events}
use Rattle.giop_session.specs.Runs.LeftToSend.{IsLeft, ClientPlans}
use Rattle.giop_end.specs.Hearing.ClientHears.{client_act, client_breaks, client_side}
use Rattle.giop_session.proofs.OnRuns.EventLemmas.{each_follows}
use Rattle.giop_session.proofs.OnRuns.FollowedLemmas.{followed, met_heard, own_heard, own_planned}
use Rattle.giop_session.proofs.OnRuns.ClientLeftLemmas.{heard_of, own_of}
use Rattle.giop_session.proofs.laws.one_end.left.what_is_left_is_unsent_at_client.Goals as goal

pub returns-clause-called : goal.returns-clause-called
returns-clause-called c = λ interface asked form planned sent. rw sent.sent.2 refl

pub returns-clause-located : goal.returns-clause-located
returns-clause-located c = λ asked form planned sent. rw sent.sent.2 refl

pub returns-clause-cancelled : goal.returns-clause-cancelled
returns-clause-cancelled c = λ id order version planned sent. rw sent.1 refl

pub returns-clause-left : goal.returns-clause-left
returns-clause-left c = λ interface limits events k met planned id.
    followed client_step is_closed is_gathering left_of client_breaks (client_act interface)
    ClientPlans (heard_of interface) own_of _ (at k id) (own_events id events)
    (own_heard client_breaks id events
    (met_heard (client_side interface) _ k events met))
    (own_planned ClientPlans id events planned)
    (subst (IsLeft left_of) (sym (finite.get-empty nat_cmp id)) refl)
    (each_follows (client_side interface) (no_calls (record {}) limits) k events id met)
