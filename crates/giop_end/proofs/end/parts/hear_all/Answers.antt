use Rattle.std.proofs.Common.{Err, IfSome, subst}
use Rattle.giop_msg.specs.Stream.{TakesMessage}
use Rattle.giop_msg.proofs.FramerLemmas.{takes_fewer}
use Rattle.giop_end.specs.Hearing.Feeding.{Fed, with_octets}
use Rattle.giop_end.specs.Hearing.Heard.{hears_by, side_by}
use Rattle.giop_end.proofs.OnHearing.FeedingLemmas.{so_far_none, so_far_more, wanting, of_want, passed_on, refused_fed}
use Rattle.giop_end.proofs.OnHearing.HeardLemmas.{keeps, keeps_there}
use Rattle.giop_end.proofs.end.parts.hear_all.Goals as goal

pub returns-in_err-feed : goal.returns-in_err-feed
returns-in_err-feed g c =
    let heard = hears_by g.R.CallRule.next g.R.CallRule.closed g.R.Side.gathering g.R.Hearing.in_call g.R.Hearing.breaks
    (g.R.Hearing.act_by c.args.interface.now) in
    let unread = with_octets c.args.framer.now c.args.octets.now in
    wanting heard unread unread _ _ _ c.from_residual.result (so_far_none heard unread _)
    (of_want c.from_residual.result c.in_err-feed.field-0.0 c.in_err-feed.ensures.err c.from_residual.ensures.1)

pub loop-message-smaller : goal.loop-message-smaller
loop-message-smaller g c =
    rw c.hear.ensures.framer (takes_fewer _ _ c.in-Some.message
    (subst (λ o. IfSome o (λ m. TakesMessage c.loop-message.framer m c.next.new.self)) c.in-Some.is c.in_ok-message.ensures.found))

pub loop-message-preserved : goal.loop-message-preserved
loop-message-preserved g c =
    let heard = hears_by g.R.CallRule.next g.R.CallRule.closed g.R.Side.gathering g.R.Hearing.in_call g.R.Hearing.breaks
    (g.R.Hearing.act_by c.args.interface.now) in
    let takes = subst (λ o. IfSome o (λ m. TakesMessage c.loop-message.framer m c.next.new.self)) c.in-Some.is c.in_ok-message.ensures.found in
    rw c.hear.ensures.framer (so_far_more heard _ _ _ _ _ _ c.in-Some.message c.loop-message.invariant takes
    (subst (λ result. heard c.in-Some.message c.loop-message.calls result c.hear.new.calls) c.in_ok-hear.was c.hear.ensures.hears))

pub returns-in_err-hear : goal.returns-in_err-hear
returns-in_err-hear g c =
    let heard = hears_by g.R.CallRule.next g.R.CallRule.closed g.R.Side.gathering g.R.Hearing.in_call g.R.Hearing.breaks
    (g.R.Hearing.act_by c.args.interface.now) in
    let takes = subst (λ o. IfSome o (λ m. TakesMessage c.loop-message.framer m c.next.new.self)) c.in-Some.is c.in_ok-message.ensures.found in
    let why = c.in_err-hear.field-0.0 in
    let refused : heard c.in-Some.message c.loop-message.calls (Err why) c.hear.new.calls =
    subst (λ result. heard c.in-Some.message c.loop-message.calls result c.hear.new.calls) c.in_err-hear.was c.hear.ensures.hears in
    let same = keeps (side_by g.R.CallRule.next g.R.CallRule.closed g.R.Side.gathering g.R.Hearing.in_call g.R.Hearing.breaks
    (g.R.Hearing.act_by c.args.interface.now)) c.in-Some.message c.loop-message.calls c.hear.new.calls why refused in
    let there = keeps_there (side_by g.R.CallRule.next g.R.CallRule.closed g.R.Side.gathering g.R.Hearing.in_call g.R.Hearing.breaks
    (g.R.Hearing.act_by c.args.interface.now)) c.in-Some.message c.loop-message.calls c.hear.new.calls why refused in
    rw c.hear.ensures.framer (subst (λ unread. Fed heard unread c.args.calls.now c.from_residual-in_err-hear.result c.next.new.self c.hear.new.calls)
    c.in_ok-feed.ensures.ok
    (refused_fed heard _ _ c.next.new.self _ _ c.hear.new.calls c.in-Some.message why c.from_residual-in_err-hear.result c.loop-message.invariant takes
    same there (passed_on c.from_residual-in_err-hear.result why c.from_residual-in_err-hear.ensures.1)))
