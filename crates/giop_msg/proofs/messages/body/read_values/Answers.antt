use Rattle.std.proofs.Common.{◌≡◌, inl, inr, [], ◌∷◌, ◌++◌, ap, arith}
use Rattle.std.proofs.lemmas.Grind.{common_steps}
use Rattle.giop_types.specs.Coding.Decoding.{fields_at}
use Rattle.giop_types.specs.Values.Views.{value_view}
use Rattle.giop_msg.specs.Messages.Body.{fields_in}
use Rattle.giop_msg.proofs.WholeMessages.ParameterLoops.{read_on, read_end, all_read}
use Rattle.giop_msg.proofs.messages.body.read_values.Goals as goal

pub returns-in-Err : goal.returns-in-Err
returns-in-Err g c =
    elim c.in-Err.ensures.value.0 [
      | inl refused ↦ inl (read_end c.loop-parameter.values c.args.parameters.now c.loop-parameter.parameter-index c.parameter-item.result
          c.loop-parameter.input
          c.in-Err.fault (fields_at (fields_in c.args.parameters.now) c.args.input.now) c.loop-parameter-test.true c.parameter-item.is refused
          c.loop-parameter.invariant)
      | inr want ↦ inr (ap (λ e. e.kind) want.0)
    ]

pub loop-parameter-preserved : goal.loop-parameter-preserved
loop-parameter-preserved g c =
    let pushed : c.push.new.self ≡ c.loop-parameter.values ++ value_view c.in-Ok.value ∷ [] = grind (arith, common_steps) in
    rw pushed (read_on c.loop-parameter.values c.args.parameters.now c.loop-parameter.parameter-index c.parameter-item.result c.loop-parameter.input
    (value_view c.in-Ok.value) c.decode.new.input (fields_at (fields_in c.args.parameters.now) c.args.input.now) c.loop-parameter-test.true
    c.parameter-item.is c.in-Ok.ensures.value c.loop-parameter.invariant)

pub returns : goal.returns
returns g c =
    all_read c.loop-parameter.values c.args.parameters.now c.loop-parameter.parameter-index c.loop-parameter.input
    (fields_at (fields_in c.args.parameters.now) c.args.input.now) c.loop-parameter-test.false c.loop-parameter.invariant
