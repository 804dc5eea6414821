use Rattle.giop_ids.proofs.Puts.{get-put, same_tables}
use Rattle.giop_ids.proofs.laws.one_id_changes.Goals as goal

pub returns-clause-value : goal.returns-clause-value
returns-clause-value g c = get-put

pub returns-clause-equal : goal.returns-clause-equal
returns-clause-equal g c = same_tables
