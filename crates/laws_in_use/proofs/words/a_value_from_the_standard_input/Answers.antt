use Rattle.std.proofs.Common.{◌≡◌, ◌+◌, ◌≤◌, ap, ◌∙◌, arith}
use Rattle.giop_words.specs.Inputs.{input}
use Rattle.laws_in_use.proofs.words.a_value_from_the_standard_input.Goals as goal

pub returns-clause-value : goal.returns-clause-value
returns-clause-value c = λ file way desc order is other.
    let one : input file.now ≡ 1 = ap input is ∙ c.the_standard_input_is_read_once.ensures.is in
    let none : input desc.now ≡ 0 = ap input other ∙ c.the_standard_input_is_read_once.ensures.other in
    let within : input desc.now + input file.now ≤ 1 = omega (arith, one, none) in
    within

pub returns-clause-description : goal.returns-clause-description
returns-clause-description c = λ file way desc order other is.
    let one : input desc.now ≡ 1 = ap input is ∙ c.the_standard_input_is_read_once.ensures.is in
    let none : input file.now ≡ 0 = ap input other ∙ c.the_standard_input_is_read_once.ensures.other in
    let within : input desc.now + input file.now ≤ 1 = omega (arith, one, none) in
    within

pub returns-clause-both : goal.returns-clause-both
returns-clause-both c = λ file way order once is. c.the_standard_input_is_read_once.ensures.twice file way file order is is once
