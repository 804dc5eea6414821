use Rattle.std.proofs.Common.{arith, inl, inr}
use Rattle.giop_c.proofs.laws.small_buffers_stay.Goals as goal

pub returns-clause-small : goal.returns-clause-small
returns-clause-small c = λ octets buffer buffer' size size' status less copies. elim copies.1 [
  | inl all ↦ absurd (omega (arith, less, all.1))
  | inr none ↦ (none.0, none.2, copies.0)
]

pub returns-clause-unfit : goal.returns-clause-unfit
returns-clause-unfit c = λ octets buffer buffer' size size' status copies. elim copies [
  | inl fits ↦ absurd (let no = fits.0 in cc)
  | inr other ↦ elim other [
    | inl want ↦ absurd (let no = want.0 in cc)
    | inr none ↦ (none.1, none.2.0, none.2.1)
  ]
]
