use Rattle.giop_serving.proofs.OnServe.FitLemmas.{some_fit}
use Rattle.giop_serving.proofs.serve.answers.fitting.list_fits.Goals as goal

pub returns-in_default : goal.returns-in_default
returns-in_default c = rw (some_fit c.args.wanted.interface.now c.args.wanted.sending c.args.wanted.name.now c.args.wanted.operation.now.outs.list.items
    c.args.list.now c.in_default.len_at_least)
    c.each_fits.ensures
