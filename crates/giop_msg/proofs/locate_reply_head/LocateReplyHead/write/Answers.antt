use Rattle.giop_msg.proofs.LocateLemmas.{locate_reply_head_is}
use Rattle.giop_msg.proofs.locate_reply_head.LocateReplyHead.write.Goals as goal

pub write-requires : goal.write-requires
write-requires c = locate_reply_head_is c.args.self.now.version
