use Rattle.std.proofs.Common.{map}
use Rattle.giop_cdr.proofs.Writing.WriterLemmas.{grows_then}
use Rattle.giop_types.specs.Coding.Written.{fields_out}
use Rattle.giop_types.specs.Values.Views.{value_view}
use Rattle.giop_msg.specs.Messages.Body.{fields_in}
use Rattle.giop_msg.proofs.WholeMessages.ParameterLoops.{written_on, all_written}
use Rattle.giop_msg.proofs.messages.body_writing.append_values.Goals as goal

pub loop-i-preserved : goal.loop-i-preserved
loop-i-preserved c =
    let l = c.loop-i.invariant in
    let put = rw (← c.index-parameters-i.is) at c.in_ok-encode.ensures.value in
    record {
      written = written_on c.args.parameters.now c.args.values.now c.loop-i.i c.index-parameters-i.result c.index-values-i.result c.loop-i.out c.encode.new.out
          (fields_out (fields_in c.args.parameters.now) (map value_view c.args.values.now) c.args.out.now)
          c.loop-i-test.true c.requires c.index-parameters-i.is c.index-values-i.is put.0 l.written;
      grows = grows_then c.args.out.now c.loop-i.out c.encode.new.out l.grows put.1;
    }

pub returns : goal.returns
returns c =
    let l = c.loop-i.invariant in
    (all_written c.args.parameters.now c.args.values.now c.loop-i.i c.loop-i.out _ c.loop-i-test.false l.written, l.grows)
