use Rattle.giop_msg.specs.Messages.LocateReply.{locate_reply}
use Rattle.giop_msg.proofs.BackLemmas.{held_where_ok, joined_written}
use Rattle.giop_msg.proofs.WholeMessages.LawLemmas.{message_read_back}
use Rattle.giop_msg.proofs.WholeMessages.LocateReplyLemmas.{locate_reply_is}
use Rattle.giop_msg.proofs.messages.locate_reply.LocateReply.encode.Goals as goal

pub returns-clause-back : goal.returns-clause-back
returns-clause-back c =
    let answer = c.args.self.now in
    let message = locate_reply answer.head.version in
    message_read_back (locate_reply_is answer.head.version) c.args.order answer c.into_bytes.result.items (cc)
    (held_where_ok c.append_reply.result (message.holds answer) (cc) c.append_reply.ensures.held)
    (joined_written c.append_reply.result (message.written answer) c.args.order c.in-Ok.out c.append_reply.new.out
    c.into_bytes.result.items (cc) c.append_reply.ensures.written c.in-Ok.ensures c.into_bytes.ensures)
