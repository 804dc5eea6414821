use Rattle.giop_serving.proofs.OnServe.FitLemmas.{answer_judged}
use Rattle.giop_serving.proofs.serve.answers.fitting.each_fits.Goals as goal

pub loop-json-preserved : goal.loop-json-preserved
loop-json-preserved c =
    let l = c.loop-json in
    rw c.both-all.ensures
    (answer_judged c.args.wanted.interface.now c.args.wanted.sending c.args.wanted.name.now c.args.wanted.operation.now.outs.list.items
    l.all c.in_ok-one.one c.args.list.now l.json-index
    c.json-item.result _ c.loop-json-test.true
    c.json-item.is c.in_ok-one.ensures l.invariant)
