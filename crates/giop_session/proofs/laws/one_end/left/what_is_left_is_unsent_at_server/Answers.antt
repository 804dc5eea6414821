use Rattle.std.proofs.Common.{refl, sym, subst}
use Rattle.std.specs.Ordering.{nat_cmp}
use Rattle.std.specs.FinMap as finite
use Rattle.giop_calls.specs.ServerTable.{is_closed, is_gathering, left_of, server_step}
use Rattle.giop_end.specs.Ends.Begun.{no_calls}
use Rattle.giop_table.specs.CallTable.{at}
use Rattle.giop_session.specs.Runs.Events.{own_events}
use Rattle.giop_session.specs.Runs.LeftToSend.{IsLeft, ServerPlans}
use Rattle.giop_end.specs.Hearing.ServerHears.{server_act, server_breaks, server_side}
use Rattle.giop_session.proofs.OnRuns.EventLemmas.{each_follows}
use Rattle.giop_session.proofs.OnRuns.FollowedLemmas.{followed, met_heard, own_heard, own_planned}
use Rattle.giop_session.proofs.OnRuns.LeftLemmas.{heard_of, own_of}
use Rattle.giop_session.proofs.laws.one_end.left.what_is_left_is_unsent_at_server.Goals as goal

pub returns-clause-answered : goal.returns-clause-answered
returns-clause-answered c = λ interface question answer form planned sent. rw sent.sent.2 refl

pub returns-clause-located : goal.returns-clause-located
returns-clause-located c = λ id here order version planned sent. rw sent.1 refl

pub returns-clause-left : goal.returns-clause-left
returns-clause-left c = λ interface limits events k met planned id.
    followed server_step is_closed is_gathering left_of server_breaks (server_act interface)
    ServerPlans (heard_of interface) own_of _ (at k id) (own_events id events)
    (own_heard server_breaks id events
    (met_heard (server_side interface) _ k events met))
    (own_planned ServerPlans id events planned)
    (subst (IsLeft left_of) (sym (finite.get-empty nat_cmp id)) refl)
    (each_follows (server_side interface) (no_calls (record {}) limits) k events id met)
