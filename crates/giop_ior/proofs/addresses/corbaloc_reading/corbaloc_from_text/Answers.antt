use Rattle.giop_ior.proofs.FirstFaultLemmas.{answer_first}
use Rattle.giop_ior.proofs.GrammarLemmas.{answer_found, answer_only}
use Rattle.giop_ior.proofs.addresses.corbaloc_reading.corbaloc_from_text.Goals as goal

pub returns-clause-found : goal.returns-clause-found
returns-clause-found c = answer_found c.args.text.now _ c.corbaloc_of.ensures.value

pub returns-clause-only : goal.returns-clause-only
returns-clause-only c = answer_only c.args.text.now _ c.corbaloc_of.ensures.value c.corbaloc_of.ensures.err

pub returns-clause-first : goal.returns-clause-first
returns-clause-first c = answer_first c.args.text.now _ c.corbaloc_of.ensures.err
