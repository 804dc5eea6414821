use Rattle.giop_types.specs.Descriptions.CheckedShape.{checked_shape}
use Rattle.giop_converting.proofs.ConvertLemmas.{form_told}
use Rattle.giop_converting.proofs.convert.value.convert_encode.Goals as goal

pub returns-in_ok-form_refusal-in-Err : goal.returns-in_ok-form_refusal-in-Err
returns-in_ok-form_refusal-in-Err g c =
    let line = c.in_ok-form_refusal-in-Err.ensures.value in
    form_told (checked_shape c.args.desc.now) c.args.order c.args.octets.now _ _ c.refuse.result c.in-Err.fault c.refuse.ensures.ok
    (rw line at c.refuse.ensures.text)
    (rw c.unended.ensures at c.in-Err.ensures.err) c.in_ok-form_refusal-in-Err.ensures.refused
