use Rattle.std.proofs.Common.{◌≡◌, take, true}
use Rattle.std.specs.List.{list_all}
use Rattle.giop_cdr.specs.Layout.{tagged}
use Rattle.giop_ior.proofs.references.ior_writing.each_is_writable.Given as goal

abbrev pub invariant-loop-item : goal.invariant-loop-item
invariant-loop-item g l =
    list_all (tagged g.I.TaggedParts.tag_of g.I.TaggedParts.contents_of g.I.Tagged.made).fits (take l.item-index l.items) ≡ true
