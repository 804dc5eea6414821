use Rattle.std.specs.Option.{option_copied}
use Rattle.giop_cdr.specs.Ending.{ended}
use Rattle.giop_msg.specs.Messages.Body.{body_of}
use Rattle.giop_msg.specs.Messages.Reply.{offer_for, reply, reply_body, status_of}
use Rattle.giop_msg.proofs.BackLemmas.{follows_where_ok}
use Rattle.giop_msg.proofs.WholeMessages.HeldLemmas.{reply_holds}
use Rattle.giop_msg.proofs.WholeMessages.ReplyWritingLemmas.{fitting_body, fitting_head, parts_written}
use Rattle.giop_msg.proofs.WholeMessages.RequestLemmas.{appends_then}
use Rattle.giop_msg.proofs.messages.reply_writing.append_reply.Goals as goal

pub append_parts-requires : goal.append_parts-requires
append_parts-requires c =
    let r = c.args.answer.now in
    rw (c.status-status.ensures, c.as_slice.ensures) (fitting_head c.args.interface.now (option_copied c.args.request) r.version r c.requires.fits)

pub append_reply_body-requires : goal.append_reply_body-requires
append_reply_body-requires c =
    let r = c.args.answer.now in
    rw (c.offer_for-offer.ensures, c.requires.outs) (fitting_body c.args.interface.now (option_copied c.args.request) r.version r c.requires.fits)

pub returns-clause-written : goal.returns-clause-written
returns-clause-written c =
    let r = c.args.answer.now in
    let put = c.in_ok-append_parts.ensures.written in
    appends_then c.append_reply_body.result c.args.out.now c.append_parts.new.out c.append_reply_body.new.out _ _ put.1
    (rw c.offer_for-offer.ensures at c.append_reply_body.ensures.written)
    (parts_written c.args.interface.now (option_copied c.args.request) r.version r c.args.out.now c.append_parts.new.out c.args.outs.now
    c.status-status.result c.as_slice.result.now c.requires.fits c.requires.outs c.status-status.ensures c.as_slice.ensures put.0)

pub returns-clause-held : goal.returns-clause-held
returns-clause-held c =
    let r = c.args.answer.now in
    let interface = c.args.interface.now in
    let asked = option_copied c.args.request in
    follows_where_ok c.append_reply_body.result
    ((body_of r.version (ended (reply_body (offer_for interface asked) c.args.outs.now (status_of r.body)))).holds r.body)
    ((reply interface asked r.version).holds r)
    (reply_holds interface asked r.version r c.args.outs.now c.status-status.result c.as_slice.result.now c.requires.fits c.requires.outs
    c.status-status.ensures c.as_slice.ensures c.in_ok-append_parts.ensures.held)
    (rw c.offer_for-offer.ensures at c.append_reply_body.ensures.held)
