use Rattle.std.proofs.Common.{refl, ◌∙◌}
use Rattle.giop_ior.proofs.addresses.to_ior.are_profiles.Goals as goal

pub returns : goal.returns
returns c = c.each_is_profile.ensures ∙ rw (c.as_slice.ensures, c.as_slice-2.ensures) refl
