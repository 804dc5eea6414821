use Rattle.giop_cdr.specs.Reading.Values.{boolean_at}
use Rattle.giop_cdr.specs.Spelling.{SpellsBoolean}
use Rattle.giop_cdr.specs.Reading.Exactness.{RefusedBoolean}
use Rattle.giop_cdr.proofs.Spelling.BooleanSpelling.{boolean_exact}
use Rattle.giop_cdr.proofs.Writing.RoundTripLemmas.{boolean_back}
use Rattle.giop_cdr.proofs.Reading.Stretches.{stands_alone}
use Rattle.giop_cdr.proofs.laws.primitives.booleans_are_spelled.Goals as goal

pub returns-clause-exact : goal.returns-clause-exact
returns-clause-exact c = boolean_exact

pub returns-clause-alone : goal.returns-clause-alone
returns-clause-alone c = stands_alone SpellsBoolean RefusedBoolean boolean_at boolean_exact

pub returns-clause-back : goal.returns-clause-back
returns-clause-back c = boolean_back
