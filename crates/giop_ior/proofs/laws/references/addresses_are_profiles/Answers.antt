use Rattle.giop_ior.proofs.ToIorLemmas.{addresses_read}
use Rattle.giop_ior.proofs.laws.references.addresses_are_profiles.Goals as goal

pub returns : goal.returns
returns c = addresses_read
