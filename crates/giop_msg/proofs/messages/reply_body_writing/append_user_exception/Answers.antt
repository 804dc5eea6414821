use Rattle.giop_msg.proofs.WholeMessages.ReplyWritingLemmas.{members_fit}
use Rattle.std.proofs.Common.{arith}
use Rattle.std.proofs.lemmas.Grind.{common_steps}
use Rattle.giop_cdr.specs.Layout.{field, such, text, gives}
use Rattle.giop_msg.specs.Messages.Body.{values}
use Rattle.giop_msg.specs.Messages.Reply.{user_exception}
use Rattle.giop_msg.proofs.messages.reply_body_writing.append_user_exception.Goals as goal

pub append_values-requires : goal.append_values-requires
append_values-requires c =
    members_fit c.args.offer.now c.args.id.now c.members_of.result.now c.args.members.now c.members_of.ensures c.requires

pub returns-clause-written : goal.returns-clause-written
unfolding user_exception values field such text gives
returns-clause-written c = grind (arith, common_steps)

pub returns-clause-held : goal.returns-clause-held
unfolding user_exception values field such text gives
returns-clause-held c = grind (arith, common_steps)
