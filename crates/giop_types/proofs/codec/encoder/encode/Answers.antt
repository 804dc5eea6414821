use Rattle.giop_types.specs.Descriptions.CheckedShape.{checked_shape}
use Rattle.giop_types.specs.Values.Views.{value_view}
use Rattle.giop_types.proofs.Coding.EncodeLemmas.{encoded_back}
use Rattle.giop_types.proofs.codec.encoder.encode.Goals as goal

pub returns-in_default-clause-back : goal.returns-in_default-clause-back
returns-in_default-clause-back c =
    let put = rw c.desc.ensures.same at c.in_default.ensures in
    encoded_back (checked_shape c.args.desc.now) (value_view c.args.value.now) c.args.out.now c.append.new.out
    (rw c.desc.ensures.same at c.desc.ensures.full) put.0 put.1
