use Rattle.std.specs.Option.{option_copied}
use Rattle.giop_msg.proofs.WholeMessages.ReplyWritingLemmas.{fits_else, fits_not, fits_then}
use Rattle.giop_msg.proofs.messages.reply.Reply.is_writable_by.Goals as goal

pub returns-then-not-may_answer : goal.returns-then-not-may_answer
returns-then-not-may_answer c =
    let r = c.args.self.now in
    fits_not c.args.interface.now (option_copied c.args.request) r.version r c.status-status.result c.may_answer.result c.status-status.ensures
    c.may_answer.ensures c.if-not-may_answer.true

pub returns-then-are_writable_parts : goal.returns-then-are_writable_parts
returns-then-are_writable_parts c =
    let r = c.args.self.now in
    fits_then c.args.interface.now (option_copied c.args.request) r.version r c.status-status.result c.as_slice.result.now c.args.outs.now
    c.may_answer.result c.are_writable_parts.result c.is_fitting_body.result c.status-status.ensures c.as_slice.ensures c.may_answer.ensures
    c.if-not-may_answer.false (c.are_writable_parts.ensures r.id) c.if-are_writable_parts.true c.requires
    (rw c.offer_for.ensures at c.is_fitting_body.ensures)

pub returns-else-are_writable_parts : goal.returns-else-are_writable_parts
returns-else-are_writable_parts c =
    let r = c.args.self.now in
    fits_else c.args.interface.now (option_copied c.args.request) r.version r c.status-status.result c.as_slice.result.now c.are_writable_parts.result
    c.status-status.ensures c.as_slice.ensures (c.are_writable_parts.ensures r.id) c.if-are_writable_parts.false
