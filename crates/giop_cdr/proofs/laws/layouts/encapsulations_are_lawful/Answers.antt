use Rattle.giop_cdr.proofs.Encapsulation.EncapsulatedLemmas.{encapsulated_back, encapsulation_is}
use Rattle.giop_cdr.proofs.laws.layouts.encapsulations_are_lawful.Goals as goal

pub returns-clause-back : goal.returns-clause-back
returns-clause-back g c = λ order v out one fits holds short. encapsulated_back order one v out fits holds short

pub returns-clause-lawful : goal.returns-clause-lawful
returns-clause-lawful g c = λ order is_short one short. encapsulation_is order is_short short one
