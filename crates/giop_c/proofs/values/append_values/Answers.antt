use Rattle.std.proofs.Common.{map, true, refl}
use Rattle.giop_cdr.proofs.Writing.WriterLemmas.{grows_not, grows_then}
use Rattle.giop_types.specs.Coding.Written.{fields_out}
use Rattle.giop_types.specs.Values.Views.{value_view}
use Rattle.giop_msg.specs.Messages.Body.{fields_in}
use Rattle.giop_msg.proofs.WholeMessages.ParameterLoops.{fit_many, fit_now, fit_passed, written_on, all_written}
use Rattle.giop_c.proofs.values.append_values.Goals as goal

pub loop-i-init : goal.loop-i-init
loop-i-init c = record {
  written = refl;
  fit = c.requires;
  as_many = fit_many c.args.parameters.now c.args.values.now c.requires;
  grows = grows_not c.args.out.now;
}

pub append_value-requires : goal.append_value-requires
append_value-requires c =
    let l = c.loop-i.invariant in
    let p = c.index-parameters-i in
    let v = c.index-values-i in
    rw (← p.is) (fit_now c.args.parameters.now c.args.values.now c.loop-i.i p.result v.result c.loop-i-test.true l.as_many p.is v.is l.fit)

pub loop-i-preserved : goal.loop-i-preserved
loop-i-preserved c =
    let l = c.loop-i.invariant in
    let ps = c.args.parameters.now in
    let vs = c.args.values.now in
    let p = c.index-parameters-i in
    let v = c.index-values-i in
    let put = rw (← p.is) at c.in_ok-append_value.ensures in
    let fit = fit_now ps vs c.loop-i.i p.result v.result c.loop-i-test.true l.as_many p.is v.is l.fit in
    record {
      written = written_on ps vs c.loop-i.i p.result v.result c.loop-i.out c.append_value.new.out
          (fields_out (fields_in ps) (map value_view vs) c.args.out.now) c.loop-i-test.true l.as_many p.is v.is put.0 l.written;
      fit = fit_passed ps vs c.loop-i.i p.result v.result true c.loop-i-test.true l.as_many p.is v.is fit l.fit;
      as_many = l.as_many;
      grows = grows_then c.args.out.now c.loop-i.out c.append_value.new.out l.grows put.1;
    }

pub returns : goal.returns
returns c =
    let l = c.loop-i.invariant in
    (all_written c.args.parameters.now c.args.values.now c.loop-i.i c.loop-i.out _ c.loop-i-test.false l.written, l.grows)
