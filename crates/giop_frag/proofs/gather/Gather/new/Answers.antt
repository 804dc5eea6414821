use Rattle.giop_frag.proofs.TableLemmas.{no_octets, within_limit}
use Rattle.giop_frag.proofs.gather.Gather.new.Goals as goal

pub invariant_of-result : goal.invariant_of-result
invariant_of-result c = no_octets _ _ _ c.requires c.new.ensures c.new-2.ensures.empty

pub returns-clause-within : goal.returns-clause-within
returns-clause-within c = within_limit _ 0 _ _ (no_octets _ _ _ c.requires c.new.ensures c.new-2.ensures.empty)
