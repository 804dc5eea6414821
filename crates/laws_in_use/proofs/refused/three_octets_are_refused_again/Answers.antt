use Rattle.std.proofs.Common.{refl}
use Rattle.std.specs.Int.{w32}
use Rattle.giop_cdr.specs.Reading.Values.{field_at, number_at}
use Rattle.laws_in_use.specs.Refused.{lacking, short}
use Rattle.laws_in_use.proofs.refused.three_octets_are_refused_again.Goals as goal

pub returns-clause-reads : goal.returns-clause-reads
unfolding number_at field_at
returns-clause-reads c = (refl, refl)

pub returns-clause-views : goal.returns-clause-views
unfolding number_at field_at
returns-clause-views c = (refl, refl)

pub returns-clause-passes : goal.returns-clause-passes
unfolding number_at field_at
returns-clause-passes c = (refl, refl)

pub returns-clause-read_again : goal.returns-clause-read_again
returns-clause-read_again c = λ new again second.
    c.what_is_refused_is_refused_again.ensures.reads (number_at w32) short short new lacking again (returns-clause-reads c) second

pub returns-clause-viewed_again : goal.returns-clause-viewed_again
returns-clause-viewed_again c = λ new again second.
    c.what_is_refused_is_refused_again.ensures.views (number_at w32) short short new lacking again (returns-clause-views c) second

pub returns-clause-passed_again : goal.returns-clause-passed_again
returns-clause-passed_again c = λ new again second.
    c.what_is_refused_is_refused_again.ensures.passes (number_at w32) short short new lacking again (returns-clause-passes c) second
