use Rattle.std.proofs.Common.{ap, ◌∙◌, arith}
use Rattle.giop_cdr.specs.Writing.Output.{back_at}
use Rattle.giop_msg.specs.Messages.Reply.{reply_body, status_of}
use Rattle.giop_msg.proofs.WholeMessages.ReplyWritingLemmas.{pads_back}
use Rattle.std.proofs.lemmas.Grind.{common_steps}
use Rattle.giop_msg.proofs.messages.reply_body_writing.append_aligned.Goals as goal

pub returns-then-as_slice-padded-clause-written : goal.returns-then-as_slice-padded-clause-written
returns-then-as_slice-padded-clause-written c =
    let body = c.args.body.now in
    let pads = c.in_ok-align.ensures in
    let put = c.in_ok-append_fields.ensures.written in
    pads_back ((reply_body c.args.offer.now c.args.outs.now (status_of body)).written body) c.args.out.now c.align.new.self c.append_fields.new.out
    c.back_to.new.self c.as_slice.result.now c.as_slice-padded.result.now pads.0 pads.1 put.0 put.1 c.as_slice.ensures
    c.as_slice-padded.ensures c.if-as_slice-padded.true (c.back_to.ensures ∙ ap (λ p. back_at p c.append_fields.new.out) c.checkpoint-point.ensures)

pub returns-in_err-append_fields-clause-written : goal.returns-in_err-append_fields-clause-written
returns-in_err-append_fields-clause-written c = grind (arith, common_steps)

pub back_to-requires : goal.back_to-requires
back_to-requires c = grind (arith, common_steps)

pub returns-else-as_slice-padded-clause-written : goal.returns-else-as_slice-padded-clause-written
returns-else-as_slice-padded-clause-written c = grind (arith, common_steps)
