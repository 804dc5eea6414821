use Rattle.std.proofs.Common.{pos, get_or, ap, ◌∙◌}
use Rattle.std.proofs.lemmas.Bool.Decides.{Decides-int_eq}
use Rattle.std.proofs.lemmas.List.{map-id, get_or_default}
use Rattle.std.specs.Ordering.{int_cmp, int_eq}
use Rattle.giop_types.specs.Descriptions.Checked.{has_doubled}
use Rattle.giop_types.proofs.Descriptions.SeenLemmas.{sees_again, sees_more, sees_all, was_there, was_not, numbers_agree}
use Rattle.giop_types.proofs.description.label_check.has_doubled_number.Goals as goal

pub returns-in-Ok-false : goal.returns-in-Ok-false
returns-in-Ok-false c =
    sees_again (λ k q. int_cmp k.now q.now) (λ k. k.now) int_eq Decides-int_eq numbers_agree (λ z. z) c.args.numbers.now
    c.loop-number.number-index (get_or c.args.numbers.now c.loop-number.number-index (pos 0))
    (record { ref_ptr = (0, 0); now = get_or c.args.numbers.now c.loop-number.number-index _ }) c.loop-number.seen c.loop-number-test.true
    (get_or_default c.args.numbers.now c.loop-number.number-index (pos 0) _ c.loop-number-test.true)
    (get_or_default c.args.numbers.now c.loop-number.number-index _ (pos 0) c.loop-number-test.true)
    (was_there c.in-Ok-false.field-0 _ c.in-Ok-false.ensures.added c.in-Ok-false.field-0-test) c.loop-number.invariant
    ∙ ap (has_doubled int_eq) (map-id c.args.numbers.now)

pub returns : goal.returns
returns c =
    sees_all (λ k q. int_cmp k.now q.now) (λ k. k.now) int_eq Decides-int_eq numbers_agree (λ z. z) c.args.numbers.now c.loop-number.number-index (pos 0)
    c.loop-number.seen c.loop-number-test.false c.loop-number.invariant
    ∙ ap (has_doubled int_eq) (map-id c.args.numbers.now)

pub loop-number-preserved : goal.loop-number-preserved
loop-number-preserved c =
    sees_more (λ k q. int_cmp k.now q.now) (λ k. k.now) int_eq Decides-int_eq numbers_agree (λ z. z) c.args.numbers.now
    c.loop-number.number-index (get_or c.args.numbers.now c.loop-number.number-index (pos 0))
    (record { ref_ptr = (0, 0); now = get_or c.args.numbers.now c.loop-number.number-index _ }) c.loop-number.seen c.insert.new.self c.loop-number-test.true
    (get_or_default c.args.numbers.now c.loop-number.number-index (pos 0) _ c.loop-number-test.true)
    (get_or_default c.args.numbers.now c.loop-number.number-index _ (pos 0) c.loop-number-test.true)
    (was_not c.in-Ok-true.field-0 _ c.in-Ok-true.ensures.added c.in-Ok-true.field-0-test) c.in-Ok-true.ensures.updates.0 c.loop-number.invariant
