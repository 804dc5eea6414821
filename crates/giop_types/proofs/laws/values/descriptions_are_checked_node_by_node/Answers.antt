use Rattle.giop_types.proofs.Descriptions.NodeLemmas.{fault_first, faultless_sound}
use Rattle.giop_types.proofs.laws.values.descriptions_are_checked_node_by_node.Goals as goal

pub returns-clause-first : goal.returns-clause-first
returns-clause-first c = fault_first

pub returns-clause-sound : goal.returns-clause-sound
returns-clause-sound c = faultless_sound
