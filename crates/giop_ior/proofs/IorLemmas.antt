-- The table of a reference is lawful.
use Rattle.std.proofs.Common.{◌≡◌, ℕ, false, List, refl}
use Rattle.giop_cdr.specs.declared.order.Order.{Order}
use Rattle.giop_cdr.specs.Layout.{IsLawful, AreOctets, field, gives}
use Rattle.giop_cdr.specs.Reading.Exactness.{TakesOctets}
use Rattle.giop_cdr.proofs.LayoutLemmas.{text_is, field_is, gives_is, sequence_is, tagged_is, tagged_takes, unspelled}
use Rattle.giop_ior.specs.Ior.{Reference, tagged_profile, ior_layout}

tagged_profile_is : IsLawful tagged_profile
unfolding tagged_profile
tagged_profile_is = tagged_is _ _ _ (λ tag contents. refl) (λ tag contents. refl)

tagged_profile_takes : TakesOctets tagged_profile.spells
unfolding tagged_profile
tagged_profile_takes = tagged_takes _ _ _

pub ior_is : IsLawful ior_layout
unfolding ior_layout
ior_is =
    field_is _ (λ _ _ _ _ held. unfold field gives in cc) text_is
    (λ _. field_is _ (λ _ _ _ _ held. unfold gives in cc) (sequence_is tagged_profile_takes tagged_profile_is)
    (λ _. gives_is _))

-- a reference that doesn't fit is spelled by no octets
pub ior_unspelled : (ior : Reference) → ior_layout.fits ior ≡ false → (order : Order) (at : ℕ) (octets : List ℕ)
    → AreOctets octets → ior_layout.spells order at ior octets → ⊥
ior_unspelled = unspelled ior_is
