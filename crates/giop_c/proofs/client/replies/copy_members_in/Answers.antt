use Rattle.std.proofs.Common.{Some, subst, sym}
use Rattle.giop_msg.specs.Messages.Reply.{exception_of, listed}
use Rattle.giop_c.specs.Client.Entries.{CopiesMembers}
use Rattle.giop_c.specs.Values.{CopiesValues}
use Rattle.giop_c.proofs.client.replies.copy_members_in.Goals as goal

pub returns-in-UserException : goal.returns-in-UserException
returns-in-UserException c =
    let interface = c.args.interface.now in
    let form = c.args.form in
    let call = c.copy_members_of in
    let buffer = c.args.buffer.now in
    let size = c.args.size.now in
    let done = subst (λ id. CopiesValues (listed (exception_of interface id)) c.in-UserException.members form buffer call.new.buffer size
    call.new.size call.result) c.as_slice-id.ensures
    (subst (λ members. CopiesValues (listed (exception_of interface c.as_slice-id.result.now)) members form buffer call.new.buffer size call.new.size
    call.result) c.as_slice-members.ensures call.ensures) in
    subst (λ body. CopiesMembers interface (Some body) form buffer call.new.buffer size call.new.size call.result)
    (sym c.in-UserException.is) done
