use Rattle.std.proofs.Common.{◌≡◌, [], ◌∷◌, ◌++◌, Ok, Err, ap, ◌∙◌, refl}
use Rattle.std.specs.Int.{w32}
use Rattle.giop_cdr.specs.Reading.Values.{count_at, field_at, items_at, number_at, sequence_at, signed_at}
use Rattle.giop_cdr.specs.declared.fault.CdrKind.TheVariants.{BadCount, Short}
use Rattle.giop_cdr.specs.declared.order.Order.TheVariants.{Big}
use Rattle.giop_types.specs.Coding.AtOnce.{items_of_longs}
use Rattle.giop_types.specs.Coding.Decoding.{as_read}
use Rattle.laws_in_use.specs.AtOnce.{at_front, cut_octets, longs, longs_octets}
use Rattle.laws_in_use.proofs.at_once.two_longs_are_read.Goals as goal

two : sequence_at (signed_at w32) (at_front (longs_octets ++ 9 ∷ []))
    ≡ Ok (longs, record { order = Big; at = 12; rest = 9 ∷ [] })
unfolding sequence_at items_at signed_at number_at field_at count_at
two = refl

one_short : sequence_at (signed_at w32) (at_front cut_octets) ≡ Err (record { at = 8; kind = Short })
unfolding sequence_at items_at signed_at number_at field_at count_at
one_short = refl

too_many : sequence_at (signed_at w32) (at_front (0 ∷ 0 ∷ 0 ∷ 2 ∷ 7 ∷ []))
    ≡ Err (record { at = 0; kind = BadCount })
unfolding sequence_at items_at signed_at number_at field_at count_at
too_many = refl

pub returns-clause-at_once : goal.returns-clause-at_once
returns-clause-at_once c = two

pub returns-clause-values : goal.returns-clause-values
returns-clause-values c = c.longs_at_once_are_items.ensures.read _ ∙ ap (as_read items_of_longs) two

pub returns-clause-cut : goal.returns-clause-cut
returns-clause-cut c = c.longs_at_once_are_items.ensures.read _ ∙ ap (as_read items_of_longs) one_short

pub returns-clause-counted : goal.returns-clause-counted
returns-clause-counted c = c.longs_at_once_are_items.ensures.read _ ∙ ap (as_read items_of_longs) too_many
