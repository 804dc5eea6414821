use Rattle.std.proofs.Common.{rules, option_copied, sym, ap, ◌∙◌}
use Rattle.std.specs.Option.{option_map}
use Rattle.giop_cdr.specs.Ending as ending
use Rattle.giop_msg.specs.Messages.Reply as layout
use Rattle.giop_session.proofs.LocalLemmas.{answer_puts}
use Rattle.giop_session.proofs.end.answering.ServerEnd.answer.Goals as goal

pub returns-clause-answered : goal.returns-clause-answered
unfolding layout.reply ending.leads
returns-clause-answered c sound =
    answer_puts _ c.args.self.now.interface.now c.args.self.now.limits _
    (option_copied c.in-Some-question.question) c.args.reply c.args.form _ _ _ _ _
    (sym c.question.ensures ∙ ap (option_map option_copied) c.in-Some-question.is)
    (search rules)
