use Rattle.std.proofs.Common.{false}
use Rattle.giop_calls.specs.ClientTable.{is_closed, is_gathering, client_step}
use Rattle.giop_session.specs.Hearing.Heard.{in_call}
use Rattle.giop_session.specs.Runs.Limits.{begins_at_client}
use Rattle.giop_session.specs.Hearing.ClientHears.{client_befalls, client_breaks}
use Rattle.giop_session.proofs.OnLimits.FewLemmas.{few_within}
use Rattle.giop_session.proofs.OnLimits.LimitLemmas.{in_any_order}
use Rattle.giop_session.proofs.OnLimits.ClientLimitLemmas.{begins_only, broken, own, small}
use Rattle.giop_session.proofs.laws.limits.limits_in_any_order_at_client.Goals as goal

pub returns-clause-order : goal.returns-clause-order
returns-clause-order c = λ interface limits all came e h why are_within is_next met refuses.
    in_any_order (λ rule. client_step) (λ rule. is_closed) is_gathering in_call client_breaks (client_befalls interface) (λ kind. false) begins_at_client
    (λ rule v. begins_only v) (small interface) own broken (record {}) limits all came e h why are_within is_next met refuses

pub returns-clause-few : goal.returns-clause-few
returns-clause-few c = λ limits all few small. few_within (λ kind. false) begins_at_client limits all few small
