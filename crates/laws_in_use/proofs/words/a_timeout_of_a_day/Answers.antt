use Rattle.std.proofs.Common.{subst, Some}
use Rattle.giop_words.specs.Timeout.{IsTimeout}
use Rattle.laws_in_use.proofs.words.a_timeout_of_a_day.Goals as goal

pub returns-clause-day : goal.returns-clause-day
returns-clause-day c = c.timeouts_are_within_a_day.ensures.day

pub returns-clause-none : goal.returns-clause-none
returns-clause-none c = c.timeouts_are_within_a_day.ensures.none

pub returns-clause-some : goal.returns-clause-some
returns-clause-some c = λ seconds timeout is.
    c.timeouts_are_within_a_day.ensures.zero (subst (λ n. IsTimeout (Some n)) is timeout)

pub returns-clause-more : goal.returns-clause-more
returns-clause-more c = λ seconds timeout is.
    c.timeouts_are_within_a_day.ensures.more (subst (λ n. IsTimeout (Some n)) is timeout)
