use Rattle.giop_commands.proofs.FitLemmas.{some_fit}
use Rattle.giop_commands.proofs.serve.answers.fitting.list_fits.Goals as goal

pub returns-in_default : goal.returns-in_default
returns-in_default c = rw (some_fit c.args.interface.now c.args.sending c.args.name.now c.args.outs.now c.args.list.now c.in_default.len_at_least)
    c.each_fits.ensures
