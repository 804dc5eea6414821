use Rattle.giop_msg.proofs.WholeMessages.LocateReplyLemmas.{locate_reply_is}
use Rattle.giop_msg.proofs.WholeMessages.OutcomeLemmas.{message_decoded}
use Rattle.giop_msg.proofs.messages.locate_reply.LocateReply.decode.Goals as goal

pub returns : goal.returns
returns g c =
    message_decoded (locate_reply_is c.args.version) c.args.order (g.S.Octets.octets c.args.octets.now) c.read_reply.result c.read_reply.ensures
