use Rattle.giop_frag.proofs.TotalLemmas.{blocks_need, blocks_kept, blocks_refused}
use Rattle.giop_frag.proofs.laws.blocks_stay_within.Goals as goal

pub returns-clause-need : goal.returns-clause-need
returns-clause-need c = blocks_need

pub returns-clause-kept : goal.returns-clause-kept
returns-clause-kept c = blocks_kept

pub returns-clause-refused : goal.returns-clause-refused
returns-clause-refused c = blocks_refused
