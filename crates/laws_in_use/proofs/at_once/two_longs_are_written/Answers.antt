use Rattle.std.proofs.Common.{◌∙◌, refl}
use Rattle.giop_cdr.specs.Writing.Output.{items_out, number_out, sequence_out, signed_out}
use Rattle.laws_in_use.specs.AtOnce.{longs}
use Rattle.laws_in_use.proofs.at_once.two_longs_are_written.Goals as goal

pub returns-clause-at_once : goal.returns-clause-at_once
unfolding sequence_out items_out signed_out number_out
returns-clause-at_once c = refl

pub returns-clause-values : goal.returns-clause-values
returns-clause-values c = c.longs_at_once_are_items.ensures.written longs _ ∙ returns-clause-at_once c
