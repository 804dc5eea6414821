use Rattle.giop_cdr.proofs.Writing.RoundTripLemmas.{number_back, signed_back, octets_back, string_back}
use Rattle.giop_cdr.proofs.laws.primitives.written_values_are_read_back.Goals as goal

pub returns-clause-numbers : goal.returns-clause-numbers
returns-clause-numbers c = number_back

pub returns-clause-signed : goal.returns-clause-signed
returns-clause-signed c = signed_back

pub returns-clause-octets : goal.returns-clause-octets
returns-clause-octets c = octets_back

pub returns-clause-strings : goal.returns-clause-strings
returns-clause-strings c = string_back
