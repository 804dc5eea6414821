use Rattle.std.proofs.lemmas.Result.{err_from_is_err_and}
use Rattle.giop_types.specs.Coding.Decoding.{fields_at}
use Rattle.giop_msg.specs.Messages.Body.{fields_in}
use Rattle.giop_msg.proofs.WholeMessages.ParameterLoops.{all_skipped, skip_end, skip_on}
use Rattle.giop_msg.proofs.messages.body_checking.skip_values.Goals as goal

pub returns-in_err-skip : goal.returns-in_err-skip
returns-in_err-skip g c =
    let p = err_from_is_err_and c.from_residual.result c.from_residual.ensures.1 in
    rw (p.1, p.2) (skip_end c.args.parameters.now c.loop-parameter.parameter-index c.parameter-item.result c.loop-parameter.input
    c.in_err-skip.field-0.0 (fields_at (fields_in c.args.parameters.now) c.args.input.now) c.loop-parameter-test.true c.parameter-item.is
    c.in_err-skip.ensures.0 c.loop-parameter.invariant)

pub loop-parameter-preserved : goal.loop-parameter-preserved
loop-parameter-preserved g c =
    skip_on c.args.parameters.now c.loop-parameter.parameter-index c.parameter-item.result c.loop-parameter.input c.skip.new.input
    (fields_at (fields_in c.args.parameters.now) c.args.input.now) c.loop-parameter-test.true c.parameter-item.is c.in_ok-skip.ensures
    c.loop-parameter.invariant

pub returns : goal.returns
returns g c =
    all_skipped c.args.parameters.now c.loop-parameter.parameter-index c.loop-parameter.input
    (fields_at (fields_in c.args.parameters.now) c.args.input.now) c.loop-parameter-test.false c.loop-parameter.invariant
