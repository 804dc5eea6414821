use Rattle.giop_msg.proofs.WholeMessages.OutcomeLemmas.{told_copy}
use Rattle.giop_msg.proofs.locate_request.LocateRequest.decode.Goals as goal

pub returns-in_err-request-clause-only : goal.returns-in_err-request-clause-only
returns-in_err-request-clause-only g c = λ request is.
    let read = c.in_err-request.ensures.only request is in
    absurd cc

pub returns-clause-only : goal.returns-clause-only
returns-clause-only g c = λ request is.
    told_copy c.in-Ok.request c.in_ok-request.request request c.in-Ok.ensures (c.in_ok-request.ensures.only request is)
