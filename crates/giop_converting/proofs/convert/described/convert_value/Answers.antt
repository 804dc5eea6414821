use Rattle.std.proofs.Common.{inl}
use Rattle.giop_types.specs.Descriptions.CheckedShape.{checked_shape}
use Rattle.giop_converting.proofs.ConvertLemmas.{by_description, description_told}
use Rattle.giop_converting.proofs.convert.described.convert_value.Goals as goal

pub returns-in-Err : goal.returns-in-Err
returns-in-Err g c =
    let line = c.in_ok-form_refusal-in-Err.ensures.value in
    description_told c.args.way c.args.order c.args.description.now c.args.octets.now _ _ c.refuse.result c.in-Err.fault c.refuse.ensures.ok
    (rw line at c.refuse.ensures.text) c.in-Err.ensures c.in_ok-form_refusal-in-Err.ensures.refused

pub returns-in-Encode : goal.returns-in-Encode
returns-in-Encode g c =
    rw c.in-Encode.is
    (by_description c.convert_encode.result c.convert_encode.ensures (λ status done. inl (checked_shape c.in-Ok.desc, c.in-Ok.ensures, done)))

pub returns : goal.returns
returns g c =
    rw c.in-Decode.is
    (by_description c.convert_decode.result c.convert_decode.ensures (λ status done. inl (checked_shape c.in-Ok.desc, c.in-Ok.ensures, done)))
