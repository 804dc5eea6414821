use Rattle.std.proofs.Common.{refl}
use Rattle.giop_c.proofs.laws_in_use.no_message_of_a_closed_framer.Goals as goal

pub returns-clause-told : goal.returns-clause-told
returns-clause-told c = λ m f. (refl, (refl, refl))

pub returns-clause-only : goal.returns-clause-only
returns-clause-only c = λ m m' f f' status is. (c.closed_framers_write_nothing.ensures.closed m m' f f' status is).0

pub returns-clause-shut : goal.returns-clause-shut
returns-clause-shut c = λ new m f status is. c.closed_framers_write_nothing.ensures.opened new m m f f status is

pub returns-clause-open : goal.returns-clause-open
returns-clause-open c = λ old m f status is. c.closed_framers_write_nothing.ensures.stays old m m f f status is
