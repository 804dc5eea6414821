use Rattle.giop_ids.proofs.Lengths.{len_within_ids, len_within_other}
use Rattle.giop_ids.proofs.laws.entries_within_ids.Goals as goal

pub returns-clause-listed : goal.returns-clause-listed
returns-clause-listed g c = λ m ids. len_within_ids ids m

pub returns-clause-shared : goal.returns-clause-shared
returns-clause-shared g c = len_within_other
