use Rattle.std.proofs.Common.{◌≡◌, ◌∙◌, [], ◌∷◌, refl, sym, arith, inl}
use Rattle.giop_msg.specs.Header.{header_fault}
use Rattle.giop_c.proofs.laws_in_use.a_header_waits_for_twelve_octets.Goals as goal

pub returns-clause-told : goal.returns-clause-told
returns-clause-told c = λ m f. inl (omega arith, refl, refl, refl)

pub returns-clause-only : goal.returns-clause-only
returns-clause-only c = λ m m' f f' status reads.
    (c.twelve_octets_are_a_header.ensures.fewer 64 (71 ∷ []) m m' f f' status (omega arith) reads).0

pub returns-clause-twelve : goal.returns-clause-twelve
unfolding header_fault
returns-clause-twelve c = λ m m' f f' reads.
    let judged = c.twelve_octets_are_a_header.ensures.judged 64 (0 ∷ 0 ∷ 0 ∷ 0 ∷ 0 ∷ 0 ∷ 0 ∷ 0 ∷ 0 ∷ 0 ∷ 0 ∷ 0 ∷ []) m m' f f' 3 (omega arith) reads in
    let told : 3 ≡ 4 = judged.0 in
    absurd (omega (arith, told))
