use Rattle.std.proofs.Common.{None}
use Rattle.laws_in_use.specs.Hearing.{door_begun}
use Rattle.laws_in_use.specs.Locating.{door_begins, door_ends}
use Rattle.laws_in_use.proofs.hearing.two_pieces_are_gathered.Goals as goal

pub returns-clause-first : goal.returns-clause-first
returns-clause-first c = c.pieces_are_gathered_as_they_come.ensures.first door_begins None

pub returns-clause-more : goal.returns-clause-more
returns-clause-more c = c.pieces_are_gathered_as_they_come.ensures.more door_begun door_ends
