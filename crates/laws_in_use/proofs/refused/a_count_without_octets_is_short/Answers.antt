use Rattle.std.proofs.Common.{◌≡◌, Err, inl, refl}
use Rattle.giop_cdr.specs.Reading.Values.{count_at, field_at, number_at, octets_at}
use Rattle.laws_in_use.specs.Refused.{lacking, short}
use Rattle.laws_in_use.proofs.refused.a_count_without_octets_is_short.Goals as goal

is_short : octets_at 0 short ≡ Err lacking
unfolding octets_at count_at number_at field_at
is_short = refl

pub returns-clause-is : goal.returns-clause-is
returns-clause-is c = (inl is_short, refl)

pub returns-clause-told : goal.returns-clause-told
returns-clause-told c = λ e new told.
    c.no_fault_is_told_as_want_of_memory.ensures (octets_at 0) short new e lacking told is_short

pub returns-clause-stays : goal.returns-clause-stays
returns-clause-stays c = λ e new told.
    c.what_is_refused_is_refused_again.ensures.stays (λ octets. octets) (octets_at 0) short new e told
