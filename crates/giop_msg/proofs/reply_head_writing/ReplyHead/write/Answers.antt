use Rattle.giop_msg.proofs.ReplyHeadLemmas.{reply_head_is}
use Rattle.giop_msg.proofs.reply_head_writing.ReplyHead.write.Goals as goal

pub write-requires : goal.write-requires
write-requires c = reply_head_is c.args.self.now.version
