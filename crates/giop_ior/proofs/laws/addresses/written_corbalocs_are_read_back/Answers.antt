use Rattle.giop_ior.proofs.WrittenLemmas.{written, writable, read_back}
use Rattle.giop_ior.proofs.laws.addresses.written_corbalocs_are_read_back.Goals as goal

pub returns-clause-writable : goal.returns-clause-writable
returns-clause-writable c = writable

pub returns-clause-written : goal.returns-clause-written
returns-clause-written c = written

pub returns-clause-again : goal.returns-clause-again
returns-clause-again c = read_back
