use Rattle.std.proofs.Common.{◌≡◌, ◌-◌}
use Rattle.giop_cdr.specs.Reading.Values.{items_at}
use Rattle.giop_cdr.proofs.Reading.ItemLoops.{with_front}
use Rattle.giop_types.specs.Coding.Decoding.{decode_at}
use Rattle.giop_types.specs.Values.Views.{desc_view}
use Rattle.giop_types.proofs.codec.build.build_primitives.Given as goal

abbrev pub invariant-loop : goal.invariant-loop
invariant-loop g l =
    with_front l.values.come (items_at (decode_at (desc_view l.item)) (l.count - l.counter) l.input)
    ≡ items_at (decode_at (desc_view l.item)) l.count l.fn.input
