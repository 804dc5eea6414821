use Rattle.std.proofs.Common.{◌≡◌, ℕ, ◌+◌, ◌≤◌, codes, refl, ap, subst, ◌∙◌, arith}
use Rattle.std.specs.Str.{chars}
use Rattle.giop_words.specs.Inputs.{input}
use Rattle.giop_words.proofs.laws.the_standard_input_is_read_once.Goals as goal

is_one : input (codes "-") ≡ 1
unfolding chars
is_one = refl

pub returns-clause-is : goal.returns-clause-is
returns-clause-is c = is_one

pub returns-clause-other : goal.returns-clause-other
unfolding chars
returns-clause-other c = refl

pub returns-clause-twice : goal.returns-clause-twice
returns-clause-twice c = λ file way desc order one other once.
    let first : input file.now ≡ 1 = ap input one ∙ is_one in
    let second : input desc.now ≡ 1 = ap input other ∙ is_one in
    let within : input desc.now + input file.now ≤ 1 = once in
    absurd (omega (arith, first, second, within))
