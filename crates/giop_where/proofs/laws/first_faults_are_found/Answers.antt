use Rattle.giop_where.proofs.FoundLemmas.{found, none, earlier, discriminant}
use Rattle.giop_where.proofs.laws.first_faults_are_found.Goals as goal

pub returns-clause-found : goal.returns-clause-found
returns-clause-found c = found

pub returns-clause-none : goal.returns-clause-none
returns-clause-none c = none

pub returns-clause-earlier : goal.returns-clause-earlier
returns-clause-earlier c = earlier

pub returns-clause-discriminant : goal.returns-clause-discriminant
returns-clause-discriminant c = discriminant
