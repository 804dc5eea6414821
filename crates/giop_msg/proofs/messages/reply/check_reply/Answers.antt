use Rattle.std.proofs.Common.{arith}
use Rattle.std.proofs.lemmas.Grind.{common_steps}
use Rattle.giop_cdr.specs.Ending.{nothing, leads, made_of}
use Rattle.giop_msg.specs.Messages.Reply.{allowed, reply}
use Rattle.giop_msg.proofs.messages.reply.check_reply.Goals as goal

pub returns-in_err-head : goal.returns-in_err-head
unfolding reply allowed nothing leads made_of
returns-in_err-head c = grind (arith, common_steps)

pub returns-then-not-may_answer : goal.returns-then-not-may_answer
unfolding reply allowed nothing leads made_of
returns-then-not-may_answer c = grind (arith, common_steps)

pub returns : goal.returns
unfolding reply allowed nothing leads made_of
returns c = grind (arith, common_steps)
