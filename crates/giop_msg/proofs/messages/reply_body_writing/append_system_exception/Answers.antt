use Rattle.std.proofs.Common.{arith}
use Rattle.std.proofs.lemmas.Grind.{common_steps}
use Rattle.giop_cdr.specs.Layout.{field, such, number, text, gives}
use Rattle.giop_msg.specs.Messages.Reply.{completion, system_exception}
use Rattle.giop_msg.proofs.messages.reply_body_writing.append_system_exception.Goals as goal

pub returns-in_err-write_ulong-clause-written : goal.returns-in_err-write_ulong-clause-written
returns-in_err-write_ulong-clause-written c = grind (arith, common_steps)

pub returns-clause-written : goal.returns-clause-written
unfolding system_exception completion field such number text gives
returns-clause-written c = grind (arith, common_steps)

pub returns-clause-held : goal.returns-clause-held
unfolding system_exception completion field such number text gives
returns-clause-held c = grind (arith, common_steps)
