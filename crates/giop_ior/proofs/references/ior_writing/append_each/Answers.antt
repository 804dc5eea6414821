use Rattle.giop_cdr.specs.Layout.{tagged}
use Rattle.giop_cdr.proofs.Writing.WriterLemmas.{grows_then, item_written, items_written}
use Rattle.giop_ior.proofs.HeldLemmas.{held_on, none_left}
use Rattle.giop_ior.proofs.references.ior_writing.append_each.Goals as goal

pub loop-item-preserved : goal.loop-item-preserved
loop-item-preserved g c =
    let item = tagged g.I.TaggedParts.tag_of g.I.TaggedParts.contents_of g.I.Tagged.made in
    let put = c.in_ok-append_item.ensures.written in
    record {
      written = rw put.0 (item_written item.written c.args.items.now c.loop-item.item-index c.item-item.result
          c.loop-item.out _ c.loop-item-test.true c.item-item.is c.loop-item.invariant.written);
      grows = grows_then c.args.out.now c.loop-item.out c.append_item.new.out c.loop-item.invariant.grows put.1;
      held = held_on item.holds c.args.items.now c.loop-item.item-index c.item-item.result _ c.loop-item-test.true c.item-item.is
          c.in_ok-append_item.ensures.held c.loop-item.invariant.held;
    }

pub returns : goal.returns
returns g c =
    let item = tagged g.I.TaggedParts.tag_of g.I.TaggedParts.contents_of g.I.Tagged.made in
    record {
      written = (
        items_written item.written c.args.items.now c.loop-item.item-index c.loop-item.out _ c.loop-item-test.false
            c.loop-item.invariant.written,
        c.loop-item.invariant.grows,
      );
      held = c.loop-item.invariant.held (none_left item.holds c.args.items.now c.loop-item.item-index c.loop-item-test.false);
    }
