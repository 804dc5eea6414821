use Rattle.giop_msg.proofs.LocateLemmas.{locate_request_is}
use Rattle.giop_msg.proofs.locate_request.LocateRequest.write.Goals as goal

pub write-requires : goal.write-requires
write-requires c = locate_request_is c.args.self.now.version
