use Rattle.std.proofs.Common.{sym, ap, ◌∙◌, arith}
use Rattle.giop_msg.specs.declared.messages.reply_body.ReplyBody.TheVariants.{NoException}
use Rattle.giop_msg.proofs.WholeMessages.ReplyWritingLemmas.{outs_fit}
use Rattle.std.proofs.lemmas.Grind.{common_steps}
use Rattle.giop_cdr.specs.Layout.{field, such, number, signed, text, gives, chosen}
use Rattle.giop_msg.specs.Messages.Body.{values}
use Rattle.giop_msg.specs.Messages.Reply.{forward, needs_addressing, no_exception, reply_body, system_exception, user_exception}
use Rattle.giop_msg.proofs.messages.reply_body_writing.append_fields.Goals as goal

pub append_values-requires : goal.append_values-requires
append_values-requires c =
    outs_fit c.args.offer.now c.args.outs.now c.args.body.now c.as_slice.result.now
    (c.in-NoException.is ∙ ap (λ values. NoException values) (sym c.as_slice.ensures)) c.requires

pub returns-in-NoException-clause-written : goal.returns-in-NoException-clause-written
unfolding reply_body no_exception user_exception system_exception forward needs_addressing values field such number signed text gives chosen
returns-in-NoException-clause-written c = grind (arith, common_steps)

pub returns-in-NoException-clause-held : goal.returns-in-NoException-clause-held
unfolding reply_body no_exception user_exception system_exception forward needs_addressing values field such number signed text gives chosen
returns-in-NoException-clause-held c = grind (arith, common_steps)

pub returns-in-UserException-clause-written : goal.returns-in-UserException-clause-written
unfolding reply_body no_exception user_exception system_exception forward needs_addressing values field such number signed text gives chosen
returns-in-UserException-clause-written c = grind (arith, common_steps)

pub returns-in-UserException-clause-held : goal.returns-in-UserException-clause-held
unfolding reply_body no_exception user_exception system_exception forward needs_addressing values field such number signed text gives chosen
returns-in-UserException-clause-held c = grind (arith, common_steps)

pub returns-in-SystemException-clause-written : goal.returns-in-SystemException-clause-written
unfolding reply_body no_exception user_exception system_exception forward needs_addressing values field such number signed text gives chosen
returns-in-SystemException-clause-written c = grind (arith, common_steps)

pub returns-in-SystemException-clause-held : goal.returns-in-SystemException-clause-held
unfolding reply_body no_exception user_exception system_exception forward needs_addressing values field such number signed text gives chosen
returns-in-SystemException-clause-held c = grind (arith, common_steps)

pub returns-in-NeedsAddressing-clause-written : goal.returns-in-NeedsAddressing-clause-written
unfolding reply_body no_exception user_exception system_exception forward needs_addressing values field such number signed text gives chosen
returns-in-NeedsAddressing-clause-written c = grind (arith, common_steps)

pub returns-in-NeedsAddressing-clause-held : goal.returns-in-NeedsAddressing-clause-held
unfolding reply_body no_exception user_exception system_exception forward needs_addressing values field such number signed text gives chosen
returns-in-NeedsAddressing-clause-held c = grind (arith, common_steps)

pub returns-in-Forward-clause-written : goal.returns-in-Forward-clause-written
unfolding reply_body no_exception user_exception system_exception forward needs_addressing values field such number signed text gives chosen
returns-in-Forward-clause-written c = grind (arith, common_steps)

pub returns-in-Forward-clause-held : goal.returns-in-Forward-clause-held
unfolding reply_body no_exception user_exception system_exception forward needs_addressing values field such number signed text gives chosen
returns-in-Forward-clause-held c = grind (arith, common_steps)
