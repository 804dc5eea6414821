use Rattle.std.proofs.Common.{◌≡◌, drop}
use Rattle.std.specs.List.{AllByRecursion}
use Rattle.giop_cdr.specs.Layout.{tagged}
use Rattle.giop_cdr.specs.Writing.Output.{items_out}
use Rattle.giop_cdr.specs.Writing.Outcome.{Grows}
use Rattle.giop_ior.proofs.references.ior_writing.append_each.Given as goal

abbrev pub invariant-loop-item : goal.invariant-loop-item
invariant-loop-item g l =
    let item = tagged g.I.TaggedParts.tag_of g.I.TaggedParts.contents_of g.I.Tagged.made in
    record {
      written : items_out item.written (drop l.item-index l.items) l.out ≡ items_out item.written l.items l.fn.out;
      grows : Grows l.fn.out l.out;
      held : AllByRecursion item.holds (drop l.item-index l.items) → AllByRecursion item.holds l.items;
    }
