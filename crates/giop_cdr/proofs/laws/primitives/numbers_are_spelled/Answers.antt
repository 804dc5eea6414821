use Rattle.std.specs.Int.{byte_len}
use Rattle.giop_cdr.specs.Reading.Values.{number_at}
use Rattle.giop_cdr.specs.Spelling.{SpellsNumber}
use Rattle.giop_cdr.specs.Reading.Exactness.{RefusedShort}
use Rattle.giop_cdr.proofs.Spelling.FieldSpelling.{number_exact, signed_exact}
use Rattle.giop_cdr.proofs.Reading.Stretches.{stands_alone}
use Rattle.giop_cdr.proofs.laws.primitives.numbers_are_spelled.Goals as goal

pub returns-clause-unsigned : goal.returns-clause-unsigned
returns-clause-unsigned c = number_exact

pub returns-clause-signed : goal.returns-clause-signed
returns-clause-signed c = signed_exact

pub returns-clause-alone : goal.returns-clause-alone
returns-clause-alone c = λ w. stands_alone (SpellsNumber w) (RefusedShort (byte_len w)) (number_at w) (number_exact w)
