use Rattle.std.proofs.Common.{arith}
use Rattle.std.proofs.lemmas.Grind.{common_steps}
use Rattle.giop_cdr.specs.Ending.{nothing, leads, made_of}
use Rattle.giop_msg.specs.Messages.Reply.{allowed, reply}
use Rattle.giop_msg.proofs.messages.reply.read_reply.Goals as goal

pub returns-in_err-head : goal.returns-in_err-head
unfolding reply allowed nothing leads made_of
returns-in_err-head c = grind (arith, common_steps)

pub returns-then-not-may_answer : goal.returns-then-not-may_answer
unfolding reply allowed nothing leads made_of
returns-then-not-may_answer c = grind (arith, common_steps)

pub returns-in-Ok : goal.returns-in-Ok
unfolding reply allowed nothing leads made_of
returns-in-Ok c = grind (arith, common_steps)

pub returns-in-Err : goal.returns-in-Err
unfolding reply allowed nothing leads made_of
returns-in-Err c = grind (arith, common_steps)
