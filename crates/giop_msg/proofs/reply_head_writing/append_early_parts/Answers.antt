use Rattle.std.proofs.Common.{arith}
use Rattle.std.proofs.lemmas.Grind.{common_steps}
use Rattle.giop_cdr.specs.Layout.{field, gives, number, such}
use Rattle.giop_msg.specs.ReplyHead.{early_reply_head, reply_status}
use Rattle.giop_msg.proofs.reply_head_writing.append_early_parts.Goals as goal

pub returns-in_err-write_ulong-clause-written : goal.returns-in_err-write_ulong-clause-written
returns-in_err-write_ulong-clause-written c = grind (arith, common_steps)

pub returns-in_err-write_ulong-2-clause-written : goal.returns-in_err-write_ulong-2-clause-written
returns-in_err-write_ulong-2-clause-written c = grind (arith, common_steps)

pub returns-clause-written : goal.returns-clause-written
unfolding early_reply_head reply_status field number such gives
returns-clause-written c = grind (arith, common_steps)

pub returns-clause-held : goal.returns-clause-held
unfolding early_reply_head reply_status field number such gives
returns-clause-held c = grind (arith, common_steps)
