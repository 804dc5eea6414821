use Rattle.giop_msg.specs.Locate.{locate_request}
use Rattle.giop_msg.proofs.BackLemmas.{held_where_ok, joined_written, whole_back}
use Rattle.giop_msg.proofs.LocateLemmas.{locate_request_is}
use Rattle.giop_msg.proofs.locate_request.LocateRequest.encode.Goals as goal

pub returns-clause-back : goal.returns-clause-back
returns-clause-back c =
    let request = c.args.self.now in
    let layout = locate_request request.version in
    whole_back (locate_request_is request.version) c.args.order request c.into_bytes.result.items (cc)
    (held_where_ok c.append.result (layout.holds request) (cc) c.append.ensures.held)
    (joined_written c.append.result (layout.written request) c.args.order c.in-Ok.out c.append.new.out
    c.into_bytes.result.items (cc) c.append.ensures.written c.in-Ok.ensures c.into_bytes.ensures)
