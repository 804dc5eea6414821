use Rattle.std.proofs.Common.{inr, refl, rules}
use Rattle.giop_c.proofs.IiopMemory.{wanting}
use Rattle.giop_c.proofs.reference_calls.giop_iiop_profile.Goals as goal

pub returns-in-Err : goal.returns-in-Err
returns-in-Err c =
    let profile = wanting c.args.octets.now c.in-Err.refused c.in-Err.ensures.err (search rules) in
    inr (profile, refl, refl, refl, refl, refl)
