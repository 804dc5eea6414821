use Rattle.std.proofs.Common.{[], ◌∷◌, refl, arith, inl, inr}
use Rattle.giop_c.proofs.laws_in_use.three_octets_for_a_buffer_of_two.Goals as goal

pub returns-clause-told : goal.returns-clause-told
returns-clause-told c = (refl, inr (refl, omega arith, refl))

pub returns-clause-only : goal.returns-clause-only
returns-clause-only c = λ buffer' size' status copies.
    c.small_buffers_stay.ensures.small (1 ∷ 2 ∷ 3 ∷ []) (0 ∷ 0 ∷ []) buffer' 7 size' status (omega arith) copies

pub returns-clause-refused : goal.returns-clause-refused
returns-clause-refused c = inr (inr (refl, refl, (refl, refl)))

pub returns-clause-unfit : goal.returns-clause-unfit
returns-clause-unfit c = λ buffer' size' status copies.
    c.small_buffers_stay.ensures.unfit (1 ∷ []) (0 ∷ []) buffer' 7 size' status copies
