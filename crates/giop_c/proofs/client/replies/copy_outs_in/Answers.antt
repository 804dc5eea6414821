use Rattle.std.proofs.Common.{Some, subst, sym}
use Rattle.giop_msg.specs.Messages.Reply.{outs_for}
use Rattle.giop_c.specs.Client.Entries.{CopiesOuts, CopiesOutsOf}
use Rattle.giop_c.proofs.client.replies.copy_outs_in.Goals as goal

pub returns-in-Done : goal.returns-in-Done
returns-in-Done c =
    let interface = c.args.interface.now in
    let form = c.args.form in
    let call = c.copy_outs_to in
    let buffer = c.args.buffer.now in
    let size = c.args.size.now in
    let done = subst (λ request. CopiesOutsOf (outs_for interface (Some request)) c.in-Done.reply.body form buffer call.new.buffer size call.new.size
    call.result) c.deref.ensures
    (subst (λ reply. CopiesOutsOf (outs_for interface (Some c.deref.result.now)) reply.body form buffer call.new.buffer size call.new.size
    call.result) c.deref-in-Done.ensures call.ensures) in
    subst (λ entry. CopiesOuts interface (Some entry) form buffer call.new.buffer size call.new.size call.result)
    (sym c.in-Done.is) done
