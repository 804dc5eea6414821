use Rattle.std.proofs.Common.{sym, ◌∙◌}
use Rattle.giop_msg.proofs.WholeMessages.LocateReplyLemmas.{locate_reply_fits}
use Rattle.giop_msg.proofs.messages.locate_reply.append_reply.Goals as goal

pub append-requires : goal.append-requires
append-requires c = sym (locate_reply_fits c.args.reply.now.head.version c.args.reply.now) ∙ c.requires
