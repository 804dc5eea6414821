use Rattle.giop_converting.proofs.ConvertLemmas.{ior_told}
use Rattle.giop_converting.proofs.convert.reference.convert_ior.Goals as goal

pub returns-in_ok-ior_refusal-in-Err : goal.returns-in_ok-ior_refusal-in-Err
returns-in_ok-ior_refusal-in-Err g c =
    let line = c.in_ok-ior_refusal-in-Err.ensures.value in
    ior_told c.args.form c.args.octets.now _ _ c.refuse_in.result c.in-Err.fault c.refuse_in.ensures.ok (rw line at c.refuse_in.ensures.text)
    (rw c.unended.ensures at c.in-Err.ensures.exact) c.in_ok-ior_refusal-in-Err.ensures.refused
