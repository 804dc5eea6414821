-- The table of a point is lawful.
use Rattle.std.proofs.Common.{refl}
use Rattle.std.specs.Int.{w32}
use Rattle.giop_cdr.specs.Layout.{IsLawful, field, gives}
use Rattle.giop_cdr.proofs.LayoutLemmas.{field_is, gives_is, signed_is}
use Rattle.uses.specs.Point.{point}

pub point_is : IsLawful point
unfolding point
point_is =
    field_is _ (λ _ _ _ _ held. unfold field gives in cc) (signed_is w32 refl)
    (λ _. field_is _ (λ _ _ _ _ held. unfold gives in cc) (signed_is w32 refl) (λ _. gives_is _))
