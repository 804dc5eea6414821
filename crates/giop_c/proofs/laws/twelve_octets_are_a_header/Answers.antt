use Rattle.std.proofs.Common.{arith, inl, inr}
use Rattle.giop_c.proofs.laws.twelve_octets_are_a_header.Goals as goal

pub returns-clause-fewer : goal.returns-clause-fewer
returns-clause-fewer c = λ limit octets m m' f f' status few reads. elim reads [
  | inl none ↦ (none.1, none.2, none.3)
  | inr all ↦ absurd (omega (arith, few, all.0))
]

pub returns-clause-judged : goal.returns-clause-judged
returns-clause-judged c = λ limit octets m m' f f' status enough reads. elim reads [
  | inl none ↦ absurd (omega (arith, enough, none.0))
  | inr all ↦ all.1
]
