use Rattle.std.proofs.Common.{arith}
use Rattle.std.proofs.lemmas.Grind.{common_steps}
use Rattle.giop_cdr.specs.Ending.{made_of}
use Rattle.giop_msg.specs.Messages.Request.{request_body}
use Rattle.giop_msg.specs.Messages.RequestAnswer.{request_of_joined}
use Rattle.giop_msg.proofs.messages.request.check_request.Goals as goal

pub returns-in-Err : goal.returns-in-Err
unfolding request_of_joined request_body made_of
returns-in-Err c = grind (arith, common_steps)

pub returns-in_default : goal.returns-in_default
unfolding request_of_joined request_body made_of
returns-in_default c = grind (arith, common_steps)

pub returns-in-Ok-check_body : goal.returns-in-Ok-check_body
unfolding request_of_joined request_body made_of
returns-in-Ok-check_body c = grind (arith, common_steps)

pub returns-in-Err-check_body : goal.returns-in-Err-check_body
unfolding request_of_joined request_body made_of
returns-in-Err-check_body c = grind (arith, common_steps)
