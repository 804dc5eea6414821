use Rattle.giop_types.proofs.Coding.AtOnceLemmas.{read_at_once, written_at_once}
use Rattle.giop_types.proofs.laws.at_once.longs_at_once_are_items.Goals as goal

pub returns-clause-read : goal.returns-clause-read
returns-clause-read c = read_at_once

pub returns-clause-written : goal.returns-clause-written
returns-clause-written c = written_at_once
