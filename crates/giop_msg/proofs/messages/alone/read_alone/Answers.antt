use Rattle.std.proofs.Common.{arith}
use Rattle.std.proofs.lemmas.Grind.{common_steps}
use Rattle.giop_msg.proofs.messages.alone.read_alone.Goals as goal

pub returns-in-Ok : goal.returns-in-Ok
returns-in-Ok c = grind (arith, common_steps)

pub returns-then-ne : goal.returns-then-ne
returns-then-ne c = grind (arith, common_steps)

pub returns-in_err-check_last_values : goal.returns-in_err-check_last_values
returns-in_err-check_last_values c = grind (arith, common_steps)

pub returns : goal.returns
returns c = grind (arith, common_steps)
