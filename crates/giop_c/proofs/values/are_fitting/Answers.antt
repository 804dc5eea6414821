use Rattle.std.proofs.Common.{map, sym, ◌∙◌}
use Rattle.giop_types.specs.Values.Fits.{fields_fit}
use Rattle.giop_types.specs.Values.Views.{value_view}
use Rattle.giop_msg.specs.Messages.Body.{fields_in}
use Rattle.giop_msg.proofs.WholeMessages.ParameterLoops.{fit_failed, fit_passed, all_fit, fit_differ}
use Rattle.giop_c.proofs.values.are_fitting.Goals as goal

pub returns-then-parameters-values : goal.returns-then-parameters-values
returns-then-parameters-values c = sym (fit_differ c.args.parameters.now c.args.values.now c.if-parameters-values.true)

pub returns-then-not-fits : goal.returns-then-not-fits
returns-then-not-fits c =
    let l = c.loop-i.invariant in
    fit_failed c.args.parameters.now c.args.values.now c.loop-i.i c.index-parameters-i.result c.index-values-i.result
    (fields_fit (fields_in c.args.parameters.now) (map value_view c.args.values.now)) c.loop-i-test.true l.as_many
    c.index-parameters-i.is c.index-values-i.is (rw (← c.index-parameters-i.is) at (sym c.fits.ensures ∙ c.if-not-fits.true)) l.so_far

pub loop-i-preserved : goal.loop-i-preserved
loop-i-preserved c =
    let l = c.loop-i.invariant in
    record {
      so_far = fit_passed c.args.parameters.now c.args.values.now c.loop-i.i c.index-parameters-i.result c.index-values-i.result
          (fields_fit (fields_in c.args.parameters.now) (map value_view c.args.values.now)) c.loop-i-test.true l.as_many
          c.index-parameters-i.is c.index-values-i.is (rw (← c.index-parameters-i.is) at (sym c.fits.ensures ∙ c.if-not-fits.false)) l.so_far;
      as_many = l.as_many;
    }

pub returns : goal.returns
returns c = all_fit c.args.parameters.now c.args.values.now c.loop-i.i _ c.loop-i-test.false c.loop-i.invariant.as_many c.loop-i.invariant.so_far
