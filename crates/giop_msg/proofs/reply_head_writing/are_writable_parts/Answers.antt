use Rattle.giop_msg.specs.ReplyHead.{reply_head}
use Rattle.giop_msg.proofs.reply_head_writing.are_writable_parts.Goals as goal

pub returns-in-V10 : goal.returns-in-V10
returns-in-V10 c = λ id. rw c.in-V10.is (unfold reply_head in c.are_writable_early.ensures id)

pub returns-in-V11 : goal.returns-in-V11
returns-in-V11 c = λ id. rw c.in-V11.is (unfold reply_head in c.are_writable_early-in-V11.ensures id)

pub returns-in-V12 : goal.returns-in-V12
returns-in-V12 c = λ id. rw c.in-V12.is (unfold reply_head in c.are_writable_1_2.ensures id)
