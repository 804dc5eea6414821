-- References whose text can be read back: those of octets.
use Rattle.std.specs.List.{AllByRecursion}
use Rattle.giop_cdr.specs.Layout.{AreOctets}
use Rattle.giop_ior.specs.Ior.{Reference}

-- the type_id and the contents of each profile are octets
pub record IsOfOctets (ior : Reference) : Type 0 where
  pub type_id : AreOctets ior.type_id
  pub profiles : AllByRecursion (λ profile. AreOctets profile.octets) ior.profiles
