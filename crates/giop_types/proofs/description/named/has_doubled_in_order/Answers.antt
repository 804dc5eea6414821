use Rattle.std.proofs.Common.{◌∙◌}
use Rattle.std.specs.Cmp.Lexicographic.{slice_cmp, bytes_decides}
use Rattle.std.specs.Ordering.{nat_cmp}
use Rattle.giop_types.specs.Descriptions.Checked.{same_name}
use Rattle.giop_types.proofs.Descriptions.SeenLemmas.{sees_again, sees_more, was_there, was_not, names_agree}
use Rattle.giop_types.proofs.description.named.has_doubled_in_order.Goals as goal

pub returns-in-Ok-false : goal.returns-in-Ok-false
returns-in-Ok-false g c =
    sees_again (λ k q. slice_cmp nat_cmp k.now q.now) (λ k. k.now) same_name bytes_decides names_agree g.T.Named.name_of c.args.items.now
    c.loop-item.item-index c.item-item.result c.as_slice.result c.loop-item.seen c.loop-item-test.true c.item-item.is
    (c.as_slice.ensures ∙ c.name.ensures)
    (was_there c.in-Ok-false.field-0 _ c.in-Ok-false.ensures.added c.in-Ok-false.field-0-test) c.loop-item.invariant

pub loop-item-preserved : goal.loop-item-preserved
loop-item-preserved g c =
    sees_more (λ k q. slice_cmp nat_cmp k.now q.now) (λ k. k.now) same_name bytes_decides names_agree g.T.Named.name_of c.args.items.now
    c.loop-item.item-index c.item-item.result c.as_slice.result c.loop-item.seen c.insert.new.self c.loop-item-test.true c.item-item.is
    (c.as_slice.ensures ∙ c.name.ensures)
    (was_not c.in-Ok-true.field-0 _ c.in-Ok-true.ensures.added c.in-Ok-true.field-0-test) c.in-Ok-true.ensures.updates.0 c.loop-item.invariant
