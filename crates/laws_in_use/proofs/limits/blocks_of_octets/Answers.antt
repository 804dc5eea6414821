use Rattle.std.proofs.Common.{arith}
use Rattle.laws_in_use.proofs.limits.blocks_of_octets.Goals as goal

pub returns-clause-one : goal.returns-clause-one
returns-clause-one c = c.blocks_are_the_fewest.ensures.fewest 512 1 (omega arith)

pub returns-clause-two : goal.returns-clause-two
returns-clause-two c = λ one. let enough = c.blocks_are_the_fewest.ensures.enough 513 in absurd (omega arith)
