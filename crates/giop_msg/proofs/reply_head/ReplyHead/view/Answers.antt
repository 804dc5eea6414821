use Rattle.std.proofs.lemmas.Result.{err_from_is_err_and}
use Rattle.giop_msg.specs.Joined.{body_place}
use Rattle.giop_msg.proofs.HeadLemmas.{head_not_viewed, head_viewed}
use Rattle.giop_msg.proofs.ReplyHeadLemmas.{reply_head_is}
use Rattle.giop_msg.proofs.reply_head.ReplyHead.view.Goals as goal

pub returns-in_err-head : goal.returns-in_err-head
returns-in_err-head g c =
    let p = err_from_is_err_and c.from_residual.result c.from_residual.ensures.1 in
    rw (p.1, p.2) (head_not_viewed (reply_head_is c.args.version) (body_place c.args.version) _ _ _ _ c.new-input.ensures c.in_err-head.ensures)

pub returns : goal.returns
returns g c = head_viewed (reply_head_is c.args.version) (body_place c.args.version) _ _ _ _ _ _ c.new-input.ensures c.in_ok-head.ensures c.body_place.ensures
