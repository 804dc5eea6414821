use Rattle.std.proofs.Common.{inl, inr, arith}
use Rattle.giop_calls.specs.declared.fault.CallFault.TheVariants.{WrongKind}
use Rattle.giop_mux.specs.declared.refusal.Refusal.TheVariants.{TooManyCalls}
use Rattle.laws_in_use.proofs.numbers.numbers_of_tables.Goals as goal

pub returns-clause-second : goal.returns-clause-second
returns-clause-second c = λ refusal is.
    elim (c.refusals_are_numbered.ensures.once refusal TooManyCalls is) [
      | inl same ↦ same
      | inr rules ↦ let other = rules.3 in absurd cc
    ]

pub returns-clause-no_fourth : goal.returns-clause-no_fourth
returns-clause-no_fourth c = λ refusal is. let within = c.refusals_are_numbered.ensures.within refusal in absurd (omega arith)

pub returns-clause-third : goal.returns-clause-third
returns-clause-third c = c.refusals_are_numbered.ensures.each WrongKind 3 (omega arith) (omega arith)
