use Rattle.std.specs.Option.{option_copied}
use Rattle.giop_msg.proofs.WholeMessages.OutcomeLemmas.{message_decoded}
use Rattle.giop_msg.proofs.WholeMessages.ReplyLemmas.{reply_is}
use Rattle.giop_msg.proofs.messages.reply.Reply.decode.Goals as goal

pub returns : goal.returns
returns g c =
    message_decoded (reply_is c.args.interface.now (option_copied c.args.request) c.args.version) c.args.order (g.S.Octets.octets c.args.octets.now)
    c.decode_reply.result c.decode_reply.ensures
