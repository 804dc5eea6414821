use Rattle.std.proofs.Common.{sym}
use Rattle.giop_cdr.proofs.Writing.WriterLemmas.{grows_then}
use Rattle.giop_types.specs.Values.Views.{desc_view}
use Rattle.giop_types.proofs.Values.FitLemmas.{values-each}
use Rattle.giop_types.proofs.Coding.ListLoops.{each_passed, each_holds}
use Rattle.giop_types.proofs.Coding.EncodeLemmas.{each_on, each_end}
use Rattle.giop_types.proofs.codec.append.append_primitives.Goals as goal

pub loop-value-preserved : goal.loop-value-preserved
loop-value-preserved c =
    let l = c.loop-value.invariant in
    let put = c.in_ok-append_primitive.ensures in
    let s = desc_view c.args.item.now in
    record {
      fit = each_passed (values-each s) c.args.values.now c.loop-value.value-index c.value-item.result _ c.loop-value-test.true c.value-item.is put.0 l.fit;
      written = each_on s c.args.values.now c.loop-value.value-index c.value-item.result c.loop-value.out c.append_primitive.new.out _
          c.loop-value-test.true c.value-item.is put.1 l.written;
      grows = grows_then c.args.out.now c.loop-value.out c.append_primitive.new.out l.grows put.2;
    }

pub returns : goal.returns
returns c =
    let l = c.loop-value.invariant in
    let s = desc_view c.args.item.now in (
      sym (each_holds (values-each s) c.args.values.now c.loop-value.value-index _ c.loop-value-test.false l.fit),
      each_end s c.args.values.now c.loop-value.value-index c.loop-value.out _ c.loop-value-test.false l.written,
      l.grows,
    )
