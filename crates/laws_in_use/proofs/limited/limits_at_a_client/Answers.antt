use Rattle.std.proofs.Common.{[], ◌∷◌, arith}
use Rattle.std.proofs.lemmas.List.Sorted.{IsPermutation-refl}
use Rattle.giop_session.specs.Runs.Events.{Comes, Does}
use Rattle.laws_in_use.specs.Asking.{asking, sending}
use Rattle.laws_in_use.specs.Limited.{asked}
use Rattle.laws_in_use.specs.Locating.{here_little, limits}
use Rattle.laws_in_use.proofs.limited.limits_at_a_client.Goals as goal

pub returns-clause-within : goal.returns-clause-within
returns-clause-within c = c.limits_in_any_order_at_client.ensures.few limits asked (omega arith) (omega arith)

pub returns-clause-next : goal.returns-clause-next
returns-clause-next c = (Comes here_little ∷ [], IsPermutation-refl asked)

pub returns-clause-none : goal.returns-clause-none
returns-clause-none c = λ interface h why came refused.
    c.limits_in_any_order_at_client.ensures.order interface limits asked (returns-clause-within c)
    (Does 7 asking ∷ []) (Does 7 sending) h why (returns-clause-next c) came refused
