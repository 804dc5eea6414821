use Rattle.giop_c.proofs.laws.closed_framers_write_nothing.Goals as goal

pub returns-clause-closed : goal.returns-clause-closed
returns-clause-closed c = λ m m' f f' status is. (is.0, is.1.0, is.1.1)

pub returns-clause-opened : goal.returns-clause-opened
returns-clause-opened c = λ new m m' f f' status is. is

pub returns-clause-stays : goal.returns-clause-stays
returns-clause-stays c = λ old m m' f f' status is. is
