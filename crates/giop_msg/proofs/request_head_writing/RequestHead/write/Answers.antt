use Rattle.giop_msg.proofs.RequestHeadLemmas.{request_head_is}
use Rattle.giop_msg.proofs.request_head_writing.RequestHead.write.Goals as goal

pub write-requires : goal.write-requires
write-requires c = request_head_is c.args.self.now.version
