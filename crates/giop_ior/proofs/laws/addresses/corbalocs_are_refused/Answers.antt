use Rattle.giop_ior.proofs.RefusedLemmas.{corbaloc_refused, corbaloc_refuses}
use Rattle.giop_ior.proofs.laws.addresses.corbalocs_are_refused.Goals as goal

pub returns-clause-refused : goal.returns-clause-refused
returns-clause-refused c = corbaloc_refused

pub returns-clause-refuses : goal.returns-clause-refuses
returns-clause-refuses c = corbaloc_refuses
