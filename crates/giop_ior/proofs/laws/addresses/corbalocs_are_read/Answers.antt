use Rattle.giop_ior.proofs.GrammarLemmas.{corbaloc_found, corbaloc_only}
use Rattle.giop_ior.proofs.WrittenLemmas.{one_value}
use Rattle.giop_ior.proofs.laws.addresses.corbalocs_are_read.Goals as goal

pub returns-clause-found : goal.returns-clause-found
returns-clause-found c = corbaloc_found

pub returns-clause-only : goal.returns-clause-only
returns-clause-only c = corbaloc_only

pub returns-clause-alone : goal.returns-clause-alone
returns-clause-alone c = one_value
