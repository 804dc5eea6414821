use Rattle.giop_ior.proofs.ToIorLemmas.{addresses_read}
use Rattle.giop_ior.proofs.ior_laws.addresses_are_profiles.Goals as goal

pub returns : goal.returns
returns c = addresses_read
