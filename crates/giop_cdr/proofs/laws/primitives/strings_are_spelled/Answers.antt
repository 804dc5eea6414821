use Rattle.giop_cdr.specs.Reading.Values.{string_at}
use Rattle.giop_cdr.specs.Spelling.{SpellsString, Bounded}
use Rattle.giop_cdr.specs.Reading.Exactness.{RefusedString}
use Rattle.giop_cdr.proofs.Spelling.TextSpelling.{string_exact}
use Rattle.giop_cdr.proofs.Reading.Stretches.{stands_alone, unbounded_alone}
use Rattle.giop_cdr.proofs.laws.primitives.strings_are_spelled.Goals as goal

pub returns-clause-exact : goal.returns-clause-exact
returns-clause-exact c = string_exact

pub returns-clause-alone : goal.returns-clause-alone
returns-clause-alone c = unbounded_alone SpellsString (stands_alone (Bounded 0 SpellsString) (RefusedString 0) (string_at 0) (string_exact 0))
