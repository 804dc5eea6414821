use Rattle.std.proofs.lemmas.Result.{err_from_is_err_and}
use Rattle.giop_msg.proofs.HeadLemmas.{fault_copied, head_copied}
use Rattle.giop_msg.proofs.request_head.RequestHead.decode.Goals as goal

pub returns-in_err-head : goal.returns-in_err-head
returns-in_err-head g c =
    let p = err_from_is_err_and c.from_residual.result c.from_residual.ensures.1 in
    rw (p.1, p.2) (fault_copied _ c.in_err-head.ensures)

pub returns-in-Ok : goal.returns-in-Ok
returns-in-Ok g c = head_copied c.in-Ok.head c.in_ok-head.head c.in_ok-head.body c.in-Ok.ensures c.in_ok-head.ensures
