use Rattle.std.proofs.Common.{ℕ, List, ap, ◌∙◌}
use Rattle.giop_types.specs.Descriptions.CheckedShape.{checked_shape}
use Rattle.giop_types.specs.Values.Views.{value_view}
use Rattle.giop_types.proofs.Coding.AgainLemmas.{given_back}
use Rattle.giop_types.proofs.laws.values.encoded_and_decoded.Goals as goal

pub returns-clause-back : goal.returns-clause-back
returns-clause-back c =
    let octets = c.new-source.ensures ∙ c.deref.ensures.value ∙ c.into_bytes-octets.ensures in
    given_back (checked_shape c.args.desc.now) (value_view c.args.value.now) c.args.order c.args.start c.new-out.result c.encode.new.out c.decode.new.input
    c.decode.result c.new-out.ensures c.in_ok-encode.ensures.back c.new-input.result
    (c.new-input.ensures ∙ ap (λ (rest : List ℕ). record { order = c.args.order; at = c.args.start; rest = rest }) octets) c.decode.ensures.value
