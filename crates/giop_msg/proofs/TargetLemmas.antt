-- The layouts of targets are lawful.
use Rattle.std.proofs.Common.{◌≡◌, ℤ, pos, ◌||◌, Bool, true, false, refl, sym, ap, ◌∙◌}
use Rattle.std.proofs.lemmas.Bool.Decides.{Decides-int_eq}
use Rattle.std.specs.Int.{w16, w32}
use Rattle.std.specs.Ordering.{int_eq}
use Rattle.giop_cdr.specs.Layout.{IsLawful, signed, such, field, gives, chosen}
use Rattle.giop_cdr.proofs.LayoutLemmas.{number_is, signed_is, octets_is, such_is, field_is, gives_is, chosen_is, tagged_is}
use Rattle.giop_ior.specs.Ior.{tagged_profile}
use Rattle.giop_ior.proofs.IorLemmas.{ior_is}
use Rattle.giop_msg.specs.declared.target.Target.TheVariants.{Key, Profile, Reference}
use Rattle.giop_msg.specs.Target.{AnyTarget, disposition_of, disposition, key_of, profile_of, index_of, ior_of, key_target, profile_target, reference_target, target_by, target_layout, is_key, object_key}
use Rattle.giop_msg.proofs.MeaningLemmas.{meaning_is}

disposition_is : IsLawful disposition
unfolding disposition
disposition_is = such_is _ _ _ (signed_is w16 refl)

key_target_is : IsLawful key_target
unfolding key_target
key_target_is = field_is _ (λ _ _ _ _ held. unfold gives in ap key_of held) octets_is (λ key. gives_is (Key key))

tagged_profile_is : IsLawful tagged_profile
unfolding tagged_profile
tagged_profile_is = tagged_is _ _ _ (λ tag contents. refl) (λ tag contents. refl)

profile_target_is : IsLawful profile_target
unfolding profile_target
profile_target_is = field_is _ (λ _ _ _ _ held. unfold gives in ap profile_of held) tagged_profile_is (λ profile. gives_is (Profile profile))

reference_target_is : IsLawful reference_target
unfolding reference_target
reference_target_is =
    field_is _ (λ _ _ _ _ held. unfold field gives in ap index_of held.1) (number_is w32 refl)
    (λ index. field_is _ (λ _ _ _ _ held. unfold gives in ap ior_of held) ior_is (λ ior. gives_is (Reference index ior)))

target_by_is : (d : ℤ) → IsLawful (target_by d)
unfolding target_by
target_by_is d = chosen_is (int_eq d (pos 0)) key_target_is (chosen_is (int_eq d (pos 1)) profile_target_is reference_target_is)

-- a target that stands behind a disposition has that disposition
tells : (a b c : Bool) (d : ℤ) (v : AnyTarget) → (a || b || c) ≡ true → (a ≡ true → pos 0 ≡ d) → (b ≡ true → pos 1 ≡ d) → (c ≡ true → pos 2 ≡ d)
    → (chosen a key_target (chosen b profile_target reference_target)).holds v → disposition_of v ≡ d
unfolding chosen key_target profile_target reference_target field gives
tells true b c d v one k p r held = ap disposition_of held.1 ∙ k refl
tells false true c d v one k p r held = ap disposition_of held.1 ∙ p refl
tells false false true d v one k p r held = ap disposition_of held.1.1 ∙ r refl
tells false false false d v one k p r held = absurd cc

is_told : (d : ℤ) (v : AnyTarget) → disposition.fits d ≡ true → (target_by d).holds v → disposition_of v ≡ d
unfolding disposition such signed target_by
is_told d v fits held =
    tells (int_eq d (pos 0)) (int_eq d (pos 1)) (int_eq d (pos 2)) d v fits
    (λ e. sym ((Decides-int_eq d (pos 0)).0 e)) (λ e. sym ((Decides-int_eq d (pos 1)).0 e)) (λ e. sym ((Decides-int_eq d (pos 2)).0 e)) held

pub target_is : IsLawful target_layout
unfolding target_layout
target_is = field_is _ (λ d v fits _ held. is_told d v fits held) disposition_is target_by_is

-- a key means itself
key_again : (v : AnyTarget) → is_key v ≡ true → Key (key_of v) ≡ v
key_again (Key key) is = refl
key_again (Profile profile) is = absurd cc
key_again (Reference index ior) is = absurd cc

pub object_key_is : IsLawful object_key
unfolding object_key
object_key_is = meaning_is (λ key. Key key) key_of is_key key_again (λ key. refl) (λ key. refl) octets_is
