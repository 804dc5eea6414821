use Rattle.std.proofs.Common.{◌∙◌, None, false, ap}
use Rattle.giop_trace.specs.Observing.{left_alone, own}
use Rattle.laws_in_use.specs.Observed.{before_the_last, whole}
use Rattle.laws_in_use.proofs.ObservedOwn.{own_before, own_whole}
use Rattle.laws_in_use.proofs.observed.one_call_is_observed_among_another.Goals as goal

pub returns-clause-in_part : goal.returns-clause-in_part
returns-clause-in_part c = λ flows none.
    c.each_call_alone.ensures false flows before_the_last 7
    ∙ ap (λ flow. left_alone false flow (own 7 before_the_last)) none
    ∙ ap (left_alone false None) own_before

pub returns-clause-over : goal.returns-clause-over
returns-clause-over c = λ flows none.
    c.each_call_alone.ensures false flows whole 7
    ∙ ap (λ flow. left_alone false flow (own 7 whole)) none
    ∙ ap (left_alone false None) own_whole
