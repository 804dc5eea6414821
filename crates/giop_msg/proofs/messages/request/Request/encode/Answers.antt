use Rattle.giop_msg.specs.Messages.Request.{request}
use Rattle.giop_msg.proofs.BackLemmas.{held_where_ok, joined_written}
use Rattle.giop_msg.proofs.WholeMessages.LawLemmas.{octets_read_back}
use Rattle.giop_msg.proofs.messages.request.Request.encode.Goals as goal

pub returns-clause-back : goal.returns-clause-back
returns-clause-back c =
    let q = c.args.self.now in
    let interface = c.args.interface.now in
    let message = request interface q.head.version in
    octets_read_back interface q.head.version c.args.order q c.into_bytes.result.items (cc)
    (held_where_ok c.append_request.result (message.holds q) (cc) c.append_request.ensures.held)
    (joined_written c.append_request.result (message.written q) c.args.order c.in-Ok.out c.append_request.new.out
    c.into_bytes.result.items (cc) c.append_request.ensures.written c.in-Ok.ensures c.into_bytes.ensures)
