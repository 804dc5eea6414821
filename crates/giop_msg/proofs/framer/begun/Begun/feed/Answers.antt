use Rattle.std.proofs.Common.{arith}
use Rattle.std.proofs.lemmas.Grind.{common_steps}
use Rattle.giop_msg.proofs.framer.begun.Begun.feed.Goals as goal

pub returns-in_err-reserve-clause-kept : goal.returns-in_err-reserve-clause-kept
returns-in_err-reserve-clause-kept c = grind (arith, common_steps)

pub returns-in_err-append-clause-kept : goal.returns-in_err-append-clause-kept
returns-in_err-append-clause-kept c = grind (arith, common_steps)

pub returns-clause-ok : goal.returns-clause-ok
returns-clause-ok c = grind (arith, common_steps)

pub returns-clause-before : goal.returns-clause-before
returns-clause-before c = grind (arith, common_steps)

pub append-requires : goal.append-requires
append-requires c = grind (arith, common_steps)
