use Rattle.giop_cdr.specs.Reading.Values.{octets_at}
use Rattle.giop_cdr.specs.Spelling.{SpellsOctets, Bounded}
use Rattle.giop_cdr.specs.Reading.Exactness.{RefusedOctets}
use Rattle.giop_cdr.proofs.Spelling.CountSpelling.{octets_exact}
use Rattle.giop_cdr.proofs.Reading.Stretches.{stands_alone, unbounded_alone}
use Rattle.giop_cdr.proofs.laws.primitives.octets_are_spelled.Goals as goal

pub returns-clause-exact : goal.returns-clause-exact
returns-clause-exact c = octets_exact

pub returns-clause-alone : goal.returns-clause-alone
returns-clause-alone c = unbounded_alone SpellsOctets (stands_alone (Bounded 0 SpellsOctets) (RefusedOctets 0) (octets_at 0) (octets_exact 0))
