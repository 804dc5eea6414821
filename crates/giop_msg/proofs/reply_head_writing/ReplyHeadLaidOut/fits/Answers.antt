use Rattle.std.proofs.Common.{ap, ◌∙◌}
use Rattle.giop_msg.specs.ReplyHead.{reply_head}
use Rattle.giop_msg.proofs.reply_head_writing.ReplyHeadLaidOut.fits.Goals as goal

pub returns : goal.returns
returns c =
    let head = c.args.self.now in
    c.are_writable_parts.ensures head.id
    ∙ ap (λ contexts. (reply_head head.version).fits (record { version = head.version; id = head.id; status = head.status; contexts = contexts }))
    c.as_slice.ensures
