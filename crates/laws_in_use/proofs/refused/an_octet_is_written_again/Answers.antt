use Rattle.std.proofs.Common.{refl}
use Rattle.std.specs.Int.{w8}
use Rattle.giop_cdr.specs.Writing.Output.{number_out}
use Rattle.laws_in_use.specs.Refused.{two_octets}
use Rattle.laws_in_use.proofs.refused.an_octet_is_written_again.Goals as goal

pub returns-clause-out_of_memory : goal.returns-clause-out_of_memory
returns-clause-out_of_memory c = refl

pub returns-clause-written : goal.returns-clause-written
unfolding number_out
returns-clause-written c = (refl, record { part = _; octets = refl })

pub returns-clause-again : goal.returns-clause-again
returns-clause-again c = λ new done.
    (c.what_is_not_written_may_be_written_again.ensures (number_out w8 7) two_octets two_octets new 0 0 refl done).0

pub returns-clause-behind : goal.returns-clause-behind
returns-clause-behind c = λ new done.
    (c.what_is_not_written_may_be_written_again.ensures (number_out w8 7) two_octets two_octets new 0 0 refl done).1
