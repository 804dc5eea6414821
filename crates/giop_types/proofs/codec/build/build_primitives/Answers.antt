use Rattle.std.proofs.Common.{◌≡◌, inl, ◌∷◌, [], ◌++◌, arith}
use Rattle.std.proofs.lemmas.Grind.{common_steps}
use Rattle.std.proofs.lemmas.Result.{err_from_is_err_and}
use Rattle.giop_cdr.specs.Reading.Values.{items_at}
use Rattle.giop_cdr.proofs.Reading.ItemLoops.{goes_on, ends, is_done}
use Rattle.giop_types.specs.Coding.Decoding.{decode_at}
use Rattle.giop_types.specs.Values.Views.{desc_view, value_view}
use Rattle.giop_types.proofs.codec.build.build_primitives.Goals as goal

pub returns-in_err-value : goal.returns-in_err-value
returns-in_err-value g c =
    let p = err_from_is_err_and c.from_residual.result c.from_residual.ensures.1 in
    let item = decode_at (desc_view c.args.item.now) in
    rw (p.1, p.2) (inl (ends item c.loop.values.come c.args.count c.loop.counter c.loop.input c.in_err-value.field-0.0
    (items_at item c.args.count c.args.input.now) c.loop-test.true c.in_err-value.ensures.0 c.loop.invariant))

pub loop-preserved : goal.loop-preserved
loop-preserved g c =
    let item = decode_at (desc_view c.args.item.now) in
    let pushed : c.push.new.self.come ≡ c.loop.values.come ++ value_view c.in_ok-value.value ∷ [] = grind (arith, common_steps) in
    rw pushed (goes_on item c.loop.values.come c.args.count c.loop.counter c.loop.input
    (value_view c.in_ok-value.value) c.read_primitive.new.input (items_at item c.args.count c.args.input.now) c.loop-test.true
    c.in_ok-value.ensures c.loop.invariant)

pub returns : goal.returns
returns g c =
    let item = decode_at (desc_view c.args.item.now) in
    rw c.into_vec.ensures (is_done item c.loop.values.come c.args.count c.loop.counter c.loop.input (items_at item c.args.count c.args.input.now)
    c.loop-test.false c.loop.invariant)
