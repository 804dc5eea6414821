use Rattle.std.proofs.Common.{arith}
use Rattle.std.proofs.lemmas.Grind.{common_steps}
use Rattle.giop_msg.proofs.messages.body_writing.append_aligned.Goals as goal

pub returns-in_err-append_values : goal.returns-in_err-append_values
returns-in_err-append_values c = grind (arith, common_steps)

pub back_to-requires : goal.back_to-requires
back_to-requires c = grind (arith, common_steps)

pub returns-then-as_slice-padded : goal.returns-then-as_slice-padded
returns-then-as_slice-padded c = grind (arith, common_steps)

pub returns-else-as_slice-padded : goal.returns-else-as_slice-padded
returns-else-as_slice-padded c = grind (arith, common_steps)
