use Rattle.giop_cdr.specs.Reading.{octets_at}
use Rattle.giop_cdr.specs.Spelling.{SpellsOctets, Bounded}
use Rattle.giop_cdr.specs.Readers.{RefusedOctets}
use Rattle.giop_cdr.proofs.CountSpelling.{octets_exact}
use Rattle.giop_cdr.proofs.Stretches.{stands_alone, unbounded_alone}
use Rattle.giop_cdr.proofs.laws.octets_are_spelled.Goals as goal

pub returns-clause-exact : goal.returns-clause-exact
returns-clause-exact c = octets_exact

pub returns-clause-alone : goal.returns-clause-alone
returns-clause-alone c = unbounded_alone SpellsOctets (stands_alone (Bounded 0 SpellsOctets) (RefusedOctets 0) (octets_at 0) (octets_exact 0))
