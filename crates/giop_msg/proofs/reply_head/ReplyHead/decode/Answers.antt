use Rattle.std.proofs.Common.{IsOk, refl, subst, inr}
use Rattle.giop_msg.proofs.JoinedLemmas.{copy_is}
use Rattle.giop_msg.proofs.reply_head.ReplyHead.decode.Goals as goal

pub returns-in_err-head-clause-only : goal.returns-in_err-head-clause-only
returns-in_err-head-clause-only g c = λ head body is.
    let read = c.in_err-head.ensures.only head body is in
    absurd cc

pub returns-clause-only : goal.returns-clause-only
returns-clause-only g c = λ head body is.
    copy_is c.in-Ok.head c.in_ok-head.head head c.in_ok-head.body body c.in-Ok.ensures (c.in_ok-head.ensures.only head body is)

pub returns-in_default-clause-err : goal.returns-in_default-clause-err
returns-in_default-clause-err g c = inr (refl, subst (λ r. IsOk r) c.in_ok-head.ensures.exact refl)
