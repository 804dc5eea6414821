use Rattle.std.proofs.Common.{false}
use Rattle.giop_session.specs.Runs.Limits.{begins_at_client}
use Rattle.giop_end.specs.Hearing.ClientHears.{client_side}
use Rattle.giop_session.proofs.OnLimits.FewLemmas.{few_within}
use Rattle.giop_session.proofs.OnLimits.LimitLemmas.{in_any_order}
use Rattle.giop_session.proofs.OnLimits.ClientLimitLemmas.{begins_only, broken, own, small}
use Rattle.giop_session.proofs.laws.one_end.limits.limits_in_any_order_at_client.Goals as goal

pub returns-clause-order : goal.returns-clause-order
returns-clause-order c = λ interface limits all are_within came e h why is_next met refuses.
    in_any_order (client_side interface) (λ kind. false) begins_at_client
    (λ rule v. begins_only v) (small interface) own broken (record {}) limits all came e h why are_within is_next met refuses

pub returns-clause-few : goal.returns-clause-few
returns-clause-few c = λ limits all few small. few_within (λ kind. false) begins_at_client limits all few small
